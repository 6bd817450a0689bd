use Rattle.std.proofs.Common.{◌≡◌, ◌++◌}
use Rattle.swim_simulate.specs.Running.{round}
use Rattle.swim_simulate.proofs.run.Run.beat_all.Given as goal

-- so many clocks went on
abbrev pub invariant-loop-who : goal.invariant-loop-who
invariant-loop-who l = record {
  tick : l.self.watched.tick ≡ l.initial.self.watched.tick;
  clocks : l.self.watched.clocks ≡ l.initial.self.watched.clocks ++ round l.initial.self.watched.tick l.who;
}
