use Rattle.std.proofs.Common.{◌≡◌, drop}
use Rattle.swim_explain.specs.Causing.{first}
use Rattle.swim_explain.proofs.cause.first.Given as goal

-- no account so far is such a part
abbrev pub invariant-loop-account : goal.invariant-loop-account
invariant-loop-account l = first l.part l.number (drop l.account-index l.accounts) ≡ first l.part l.number l.accounts
