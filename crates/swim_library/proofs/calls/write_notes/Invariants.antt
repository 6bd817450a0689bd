use Rattle.std.proofs.Common.{◌≡◌, take, map, length}
use Rattle.swim_library.specs.Shapes.{note_as}
use Rattle.swim_library.proofs.calls.write_notes.Given as goal

abbrev pub invariant-loop-place : goal.invariant-loop-place
invariant-loop-place l =
    (take l.place l.notes ≡ map note_as (take l.place l.noted)) × (length l.notes ≡ length l.initial.notes)
