use Rattle.std.proofs.Common.{ℕ, ◌<◌}
use Rattle.swim_wire.specs.Faults.{from_update}
use Rattle.swim_wire.proofs.reading.some_update.Given as goal

abbrev pub invariant-loop-i : goal.invariant-loop-i
invariant-loop-i g l = (k : ℕ) → k < l.i → ¬ g.F.UpdateFault.Faulty (from_update k l.bytes)
