use Rattle.std.proofs.Common.{◌+◌, ◌≤◌, length, take}
use Rattle.std.specs.Vec.{vec_capacity}
use Rattle.std.specs.List.Sorted.{IsNonDecreasing}
use Rattle.swim_group.specs.Checking.{IsAdded}
use Rattle.swim_group.proofs.numbers.add_own.Given as goal

-- what the updates so far tell is added, and there is memory for the rest
abbrev pub invariant-loop-i : goal.invariant-loop-i
invariant-loop-i l = record {
  sorted : IsNonDecreasing l.rising.items;
  added : IsAdded l.fn.rising.items l.who (take l.i l.updates) l.rising.items;
  memory : length l.rising.items + length l.updates ≤ vec_capacity l.rising + l.i;
}
