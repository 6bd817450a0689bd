-- One more peer after those that are there once.
use Rattle.std.proofs.Common.{◌≡◌, ℕ, Bool, true, false, not, cond, List, [], ◌∷◌, ◌++◌, refl, ap, sym, ◌∙◌, arith}
use Rattle.std.specs.Prelude.{◌==◌}
use Rattle.std.specs.List.{list_any}
use Rattle.std.proofs.lemmas.Bool.{eqb-true}
use Rattle.std.proofs.lemmas.Bool.Decides.{nat_tests}
use Rattle.std.proofs.lemmas.List.{append-nil}
use Rattle.std.proofs.lemmas.List.Elements.{filter-append}
use Rattle.std.proofs.lemmas.Map.Views.{any-filter_same}
use Rattle.swim_start.specs.Starting.{once, others}

-- whether the peer is one of these
abbrev pub has : ℕ → List ℕ → Bool
has x xs = list_any (λ (y : ℕ). y == x) xs

-- it is one of those that are not another one, if it is one of them
has-others : (me x : ℕ) (xs : List ℕ) → (x == me) ≡ false → has x (others me xs) ≡ has x xs
has-others me x xs differs =
    any-filter_same (λ (y : ℕ). y == x) (λ y. not (y == me)) true
    (λ k is. let e : k ≡ x = eqb-true k x is in rw e (rw differs refl)) xs

-- what is left of one more that is left out, and of one that is not
others-out : (me x : ℕ) (xs : List ℕ) → (x == me) ≡ true → others me (xs ++ x ∷ []) ≡ others me xs
others-out me x xs is =
    filter-append (λ y. not (y == me)) xs (x ∷ []) ∙ rw is (append-nil (others me xs))

others-in : (me x : ℕ) (xs : List ℕ) → (x == me) ≡ false
    → others me (xs ++ x ∷ []) ≡ others me xs ++ x ∷ []
others-in me x xs is = filter-append (λ y. not (y == me)) xs (x ∷ []) ∙ rw is refl

-- one more, if it is not there yet
abbrev added : ℕ → List ℕ → List ℕ
added x xs = cond (has x xs) xs (xs ++ x ∷ [])

out_of : (y x : ℕ) (zs : List ℕ) (b : Bool) → (x == y) ≡ true
    → others y (cond b zs (zs ++ x ∷ [])) ≡ others y zs
out_of y x zs true is = refl
out_of y x zs false is = others-out y x zs is

within : (y x : ℕ) (zs : List ℕ) (b : Bool) → (x == y) ≡ false → has x zs ≡ b
    → y ∷ others y (cond b zs (zs ++ x ∷ []))
    ≡ cond (has x (others y zs)) (y ∷ others y zs) (y ∷ others y zs ++ x ∷ [])
within y x zs true differs is =
    let e : has x (others y zs) ≡ true = has-others y x zs differs ∙ is in rw e refl
within y x zs false differs is =
    let e : has x (others y zs) ≡ false = has-others y x zs differs ∙ is in
    rw e (ap (λ l. y ∷ l) (others-in y x zs differs))

after_first : (y x : ℕ) (zs : List ℕ) (b : Bool) → (y == x) ≡ b
    → y ∷ others y (added x zs) ≡ added x (y ∷ others y zs)
after_first y x zs true is =
    let e : (x == y) ≡ true = grind (arith, nat_tests) in
    rw is (ap (λ l. y ∷ l) (out_of y x zs (has x zs) e))
after_first y x zs false is =
    let e : (x == y) ≡ false = grind (arith, nat_tests) in
    rw is (within y x zs (has x zs) e refl)

once-append : (xs : List ℕ) (x : ℕ) → once (xs ++ x ∷ []) ≡ added x (once xs)
once-append [] x = refl
once-append (y ∷ ys) x =
    ap (λ zs. y ∷ others y zs) (once-append ys x) ∙ after_first y x (once ys) (y == x) refl

-- the member itself, one that is there, and one that is not
pub once_without : (me x : ℕ) (told now : List ℕ) → (x == me) ≡ true
    → now ≡ once (others me told)
    → now ≡ once (others me (told ++ x ∷ []))
once_without me x told now is kept = rw (others-out me x told is) kept

pub once_there : (me x : ℕ) (told now : List ℕ) → (x == me) ≡ false → has x now ≡ true
    → now ≡ once (others me told)
    → now ≡ once (others me (told ++ x ∷ []))
once_there me x told now differs is kept =
    rw (others-in me x told differs) (rw (once-append (others me told) x)
    (rw (sym kept) (rw is refl)))

pub once_more : (me x : ℕ) (told now : List ℕ) → (x == me) ≡ false → has x now ≡ false
    → now ≡ once (others me told)
    → now ++ x ∷ [] ≡ once (others me (told ++ x ∷ []))
once_more me x told now differs is kept =
    rw (others-in me x told differs) (rw (once-append (others me told) x)
    (rw (sym kept) (rw is refl)))
