use Rattle.std.proofs.Common.{◌≡◌}
use Rattle.swim_simulate.proofs.run.Run.arrive_all.Given as goal

-- no clock goes on meanwhile
abbrev pub invariant-loop-index : goal.invariant-loop-index
invariant-loop-index l = record {
  tick : l.self.watched.tick ≡ l.initial.self.watched.tick;
  clocks : l.self.watched.clocks ≡ l.initial.self.watched.clocks;
}
