use Rattle.std.proofs.Common.{◌≡◌}
use Rattle.swim_simulate.proofs.run.script_of.Given as goal

-- so many ticks are over
abbrev pub invariant-loop : goal.invariant-loop
invariant-loop l = l.run.watched.tick ≡ l.counter
