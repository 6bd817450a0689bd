-- Ceilings that cover an own number.
use Rattle.std.specs.Prelude.{ℕ, ◌≤◌, List, [], ◌∷◌}
use Rattle.swim_node.specs.declared.entry.Entry.{Entry}

-- the ceiling of each entry is at least that of the one before it, and the first at least this one
abbrev pub AreCovered : ℕ → List Entry → Type 0
AreCovered g [] = Unit {0}
AreCovered g (e ∷ entries) = (g ≤ e.granted) × AreCovered e.granted entries
