-- The first of each pair, put together.
use Rattle.std.proofs.Common.{◌≡◌, List, [], ◌∷◌, ◌++◌, refl, ap}
use Rattle.swim_trace.specs.Items.{firsts}

pub firsts_append : {A B : Type 0} (xs ys : List (A × B)) → firsts (xs ++ ys) ≡ firsts xs ++ firsts ys
firsts_append [] ys = refl
firsts_append (x ∷ xs) ys = ap (λ w. x.0 ∷ w) (firsts_append xs ys)
