-- Of operations that replace the state, the last one counts.
use Rattle.std.proofs.Common.{◌≡◌, List, [], ◌∷◌, ◌++◌, fold, refl, ap, ◌∙◌}

fold_last : {A : Type 0} (x : A) (xs : List A) (y : A) → fold (λ (s op : A). op) x (xs ++ y ∷ []) ≡ y
fold_last x [] y = refl
fold_last x (z ∷ xs) y = fold_last z xs y

pub replaced : {A : Type 0} (x y z : A) (xs zs : List A) → zs ≡ xs ++ y ∷ [] → z ≡ fold (λ (s op : A). op) x zs → z ≡ y
replaced {A = A} x y z xs zs is h = h ∙ ap (λ (ys : List A). fold (λ (s op : A). op) x ys) is ∙ fold_last x xs y
