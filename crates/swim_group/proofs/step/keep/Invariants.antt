use Rattle.std.proofs.Common.{◌≡◌, ◌+◌, ◌-◌, ◌≤◌, ◌++◌, length, min, take}
use Rattle.std.specs.Vec.{vec_capacity}
use Rattle.swim_group.proofs.step.keep.Given as goal

-- so many were copied of those for which there is room, and there is memory for the rest
abbrev pub invariant-loop-out : goal.invariant-loop-out
invariant-loop-out l = record {
  some : l.out-items ≡ take (min (length l.outs.items) (l.room - length l.fn.kept.items)) l.outs.items;
  copied : l.kept.items ≡ l.fn.kept.items ++ take l.out-index l.out-items;
  memory : length l.fn.kept.items + 10 ≤ vec_capacity l.kept;
}
