use Rattle.std.proofs.Common.{◌≡◌, take, map, length}
use Rattle.swim_library.specs.Shapes.{row_as}
use Rattle.swim_library.proofs.calls.write_rows.Given as goal

abbrev pub invariant-loop-place : goal.invariant-loop-place
invariant-loop-place l =
    (take l.place l.rows ≡ map row_as (take l.place l.page)) × (length l.rows ≡ length l.initial.rows)
