-- Names of members that begin together.
use Rattle.std.proofs.Common.{◌≡◌, ℕ, ◌+◌, ◌<◌, ◌≤◌, ◌==◌, sym, ◌∙◌, ap, All, List, [], ◌∷◌, ◌++◌, drop, take, length, slice_index_or, zero, suc, arith}
use Rattle.std.specs.List.{IsDistinct}
use Rattle.std.proofs.lemmas.List.Elements.{All-append, All-cons, All-nil}
use Rattle.std.proofs.lemmas.Map.Keys.{IsDistinct-tail}
use Rattle.swim_member.specs.declared.settings.Settings.{Settings}
use Rattle.swim_group.specs.Real.{names_in}

-- the names from a place on
pub names-drop : (settings : List Settings) (i : ℕ) (s : Settings) → i < length settings → s ≡ slice_index_or settings i s → names_in (drop i settings) ≡ s.me ∷ names_in (drop (i + 1) settings)
names-drop [] i s l e = absurd (omega arith)
names-drop (r ∷ settings) zero s l e = ap (λ (t : Settings). t.me ∷ names_in settings) (sym e)
names-drop (r ∷ settings) (suc i) s l e =
    names-drop settings i s (omega arith) e ∙ ap (λ n. s.me ∷ names_in (drop n (r ∷ settings))) (let same : suc (i + 1) ≡ suc i + 1 = omega arith in same)

pub distinct-drop : (settings : List Settings) (i : ℕ) → IsDistinct (λ x y. x == y) (names_in settings) → IsDistinct (λ x y. x == y) (names_in (drop i settings))
distinct-drop settings zero d = d
distinct-drop [] (suc i) d = d
distinct-drop (s ∷ settings) (suc i) d = distinct-drop settings i (IsDistinct-tail (λ x y. x == y) s.me (names_in settings) d)

pub distinct-past : (settings : List Settings) (i : ℕ) → length settings ≤ i → IsDistinct (λ x y. x == y) (names_in (drop i settings))
unfolding IsDistinct
distinct-past [] zero l = tt
distinct-past [] (suc i) l = tt
distinct-past (s ∷ settings) zero l = absurd (omega arith)
distinct-past (s ∷ settings) (suc i) l = distinct-past settings i (omega arith)

-- the settings up to a place, with one more
pub take-last : {X : Type 0} → (xs : List X) (k : ℕ) (x : X) → k < length xs → x ≡ slice_index_or xs k x → take (k + 1) xs ≡ take k xs ++ x ∷ []
take-last [] k x m f = absurd (omega arith)
take-last (y ∷ xs) zero x m f = ap (λ z. z ∷ []) (sym f)
take-last (y ∷ xs) (suc k) x m f = ap (λ n. take n (y ∷ xs)) (let same : suc k + 1 ≡ suc (k + 1) = omega arith in same) ∙ ap (λ zs. y ∷ zs) (take-last xs k x (omega arith) f)

-- one more has it
pub all-more : {X : Type 0} → (Q : X → Type 0) (xs : List X) (i : ℕ) (x : X) → i < length xs → x ≡ slice_index_or xs i x → Q x → All Q (take i xs) → All Q (take (i + 1) xs)
all-more Q xs i x l e q all = rw (take-last xs i x l e) (All-append Q (take i xs) (x ∷ []) all (All-cons Q x [] q (All-nil Q)))
