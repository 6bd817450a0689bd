use Rattle.std.proofs.Common.{◌≡◌, ◌++◌, drop}
use Rattle.swim_explain.specs.Probing.{helpers_of}
use Rattle.swim_explain.proofs.probing.helpers_of.Given as goal

-- the helpers so far, and those of what is left
abbrev pub invariant-loop-account : goal.invariant-loop-account
invariant-loop-account l = l.helpers.items ++ helpers_of l.accused l.seq (drop l.account-index l.accounts) ≡ helpers_of l.accused l.seq l.accounts
