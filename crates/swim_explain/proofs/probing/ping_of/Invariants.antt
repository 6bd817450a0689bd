use Rattle.std.proofs.Common.{◌≡◌, drop}
use Rattle.swim_explain.specs.Probing.{ping_of}
use Rattle.swim_explain.proofs.probing.ping_of.Given as goal

-- none so far is the ping
abbrev pub invariant-loop-account : goal.invariant-loop-account
invariant-loop-account l = ping_of l.accused l.seq (drop l.account-index l.accounts) ≡ ping_of l.accused l.seq l.accounts
