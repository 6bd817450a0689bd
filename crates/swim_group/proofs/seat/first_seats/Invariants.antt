use Rattle.std.proofs.Common.{◌≡◌, take}
use Rattle.swim_group.specs.RealNodes.{AreNewNodes}
use Rattle.swim_group.specs.Refusing.{IsNoLimit}
use Rattle.swim_group.proofs.seat.first_seats.Given as goal

-- the nodes so far: none, if no era can have such a limit
abbrev pub invariant-loop-i : goal.invariant-loop-i
invariant-loop-i l = record {
  seats : AreNewNodes l.limit (take l.i l.settings) l.seats.items;
  limit : IsNoLimit l.limit → l.i ≡ 0;
}
