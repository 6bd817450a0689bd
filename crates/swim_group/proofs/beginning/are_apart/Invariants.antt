use Rattle.std.proofs.Common.{◌==◌, drop}
use Rattle.std.specs.List.{IsDistinct}
use Rattle.swim_group.specs.Real.{names_in}
use Rattle.swim_group.proofs.beginning.are_apart.Given as goal

-- no two names are the same if no two of those that are left are
abbrev pub invariant-loop-i : goal.invariant-loop-i
invariant-loop-i l = IsDistinct (λ x y. x == y) (names_in (drop l.i l.settings)) → IsDistinct (λ x y. x == y) (names_in l.settings)
