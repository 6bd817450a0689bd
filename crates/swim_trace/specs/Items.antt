-- What a trace lists.
use Rattle.std.specs.Prelude.{List, [], ◌∷◌}

-- the first of each pair, in order
abbrev pub firsts : {A B : Type 0} → List (A × B) → List A
firsts [] = []
firsts (p ∷ ps) = p.0 ∷ firsts ps
