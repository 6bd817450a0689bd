use Rattle.std.proofs.Common.{ℕ, ◌<◌}
use Rattle.swim_wire.specs.Faults.{from_update}
use Rattle.swim_wire.proofs.Updates.{BeginsWell}
use Rattle.swim_wire.proofs.reading.are_updates_well.Given as goal

abbrev pub invariant-loop-i : goal.invariant-loop-i
invariant-loop-i l = (k : ℕ) → k < l.i → BeginsWell (from_update k l.bytes)
