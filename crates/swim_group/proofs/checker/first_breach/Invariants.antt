use Rattle.std.proofs.Common.{All, take}
use Rattle.swim_group.specs.Checking.{IsRemembered, MaySay}
use Rattle.swim_group.proofs.checker.first_breach.Given as goal

-- the updates so far keep the law
abbrev pub invariant-loop-i : goal.invariant-loop-i
invariant-loop-i l = All (λ u. MaySay (IsRemembered l.told.entries) l.sender u) (take l.i l.updates)
