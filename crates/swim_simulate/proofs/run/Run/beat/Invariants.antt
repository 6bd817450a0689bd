use Rattle.std.proofs.Common.{◌≡◌, ◌++◌}
use Rattle.swim_simulate.specs.Running.{ticks_to}
use Rattle.swim_simulate.proofs.run.Run.beat.Given as goal

-- so many ticks came
abbrev pub invariant-loop : goal.invariant-loop
invariant-loop l = record {
  tick : l.self.watched.tick ≡ l.initial.self.watched.tick;
  clocks : l.self.watched.clocks ≡ l.initial.self.watched.clocks;
  handed : l.self.watched.handed ≡ l.initial.self.watched.handed ++ ticks_to l.initial.self.watched.tick l.who l.counter;
}
