use Rattle.std.proofs.Common.{◌≡◌}
use Rattle.swim_simulate.proofs.run.Run.see.Given as goal

-- the nodes are as they were
abbrev pub invariant-loop-update : goal.invariant-loop-update
invariant-loop-update l = l.self.watched ≡ l.initial.self.watched
