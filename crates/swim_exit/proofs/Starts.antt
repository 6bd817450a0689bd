-- Names that begin alike.
use Rattle.std.proofs.Common.{◌≡◌, ℕ, List, [], ◌∷◌, ◌++◌}
use Rattle.std.proofs.lemmas.List.{append_assoc}
use Rattle.swim_exit.specs.Nearest.{StartAlike}

-- one more letter is the same in both
pub start_cons : (x y : ℕ) (one other first second rest others : List ℕ) → StartAlike one other first second → first ≡ x ∷ rest → second ≡ y ∷ others → x ≡ y → StartAlike one other rest others
start_cons x y one other first second rest others (start, e, f) g h same =
    let longer : (end : List ℕ) → (start ++ x ∷ []) ++ end ≡ start ++ (x ∷ end) = λ end. append_assoc start (x ∷ []) end in
    let a = longer rest in
    let b = longer others in
    (start ++ x ∷ [], cc, cc)
