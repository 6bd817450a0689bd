use Rattle.std.proofs.Common.{◌≡◌, drop}
use Rattle.swim_explain.specs.Lasting.{has_said}
use Rattle.swim_explain.proofs.last.has_said.Given as goal

-- it has not said it so far
abbrev pub invariant-loop-account : goal.invariant-loop-account
invariant-loop-account l = has_said l.number l.teller (drop l.account-index l.accounts) ≡ has_said l.number l.teller l.accounts
