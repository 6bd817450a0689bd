use Rattle.std.proofs.Common.{◌≡◌, ◌++◌, take}
use Rattle.swim_net.proofs.guard.LineGuard.let_through.Given as goal

-- the bytes so far were let through
abbrev pub invariant-loop-count : goal.invariant-loop-count
invariant-loop-count l = l.self.passed ≡ l.initial.self.passed ++ take l.count l.bytes
