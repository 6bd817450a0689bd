use Rattle.std.proofs.Common.{◌≡◌, ◌≤◌, ◌==◌, drop, length}
use Rattle.std.specs.List.{list_any}
use Rattle.swim_group.specs.Real.{names_in}
use Rattle.swim_group.proofs.beginning.has_name.Given as goal

-- the name is among the names from the place on if it is among those that are left
abbrev pub invariant-loop-i : goal.invariant-loop-i
invariant-loop-i l = (l.i ≤ length l.settings) × (list_any (λ x. l.name == x) (names_in (drop l.i l.settings)) ≡ list_any (λ x. l.name == x) (names_in (drop l.from l.settings)))
