use Rattle.std.proofs.Common.{◌≡◌, drop}
use Rattle.swim_wire.specs.Reading.{updates_of}
use Rattle.swim_wire.specs.Said.{greatest_said}
use Rattle.swim_wire.proofs.said.greatest_said.Given as goal

-- the greatest of the updates so far
abbrev pub invariant-loop-i : goal.invariant-loop-i
invariant-loop-i l = l.greatest ≡ greatest_said l.about (updates_of l.i (drop 32 l.bytes))
