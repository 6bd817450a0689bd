use Rattle.std.proofs.Common.{◌≡◌, take, map, length}
use Rattle.swim_library.specs.Shapes.{endpoint_as}
use Rattle.swim_library.proofs.calls.write_endpoints.Given as goal

abbrev pub invariant-loop-place : goal.invariant-loop-place
invariant-loop-place l =
    (take l.place l.out ≡ map endpoint_as (take l.place l.endpoints)) × (length l.out ≡ length l.initial.out)
