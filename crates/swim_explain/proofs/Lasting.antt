-- Accounts one after the other, and the last suspicion of them.
use Rattle.std.proofs.Common.{◌≡◌, ℕ, ◌+◌, ◌-◌, ◌<◌, ◌≤◌, Bool, true, false, ◌&&◌, ◌||◌, List, [], ◌∷◌, ◌++◌, length, drop, take, get_or, refl, sym, ap, ◌∙◌, arith}
use Rattle.std.proofs.lemmas.List.{drop_more, take_more, length-drop, get_or-drop}
use Rattle.std.specs.List.{slice_range}
use Rattle.swim_explain.specs.declared.account.Account.{Account}
use Rattle.swim_explain.specs.Lasting.{is_blame, last_case, lets_go}

-- what is left begins with this one
left-more : {X : Type 0} (xs : List X) (i : ℕ) (x : X) → i < length xs → x ≡ get_or xs i x → drop i xs ≡ x ∷ drop (i + 1) xs
left-more xs i x less is = drop_more xs i x less ∙ ap (λ y. y ∷ drop (i + 1) xs) (sym is)

range-none : {X : Type 0} (xs : List X) (i : ℕ) → slice_range xs i i ≡ []
range-none xs i = let e : i - i ≡ 0 = omega arith in rw e refl

-- a range that ends with it
range-more : {X : Type 0} (xs : List X) (a i : ℕ) (x : X) → a ≤ i → i < length xs → x ≡ get_or xs i x → slice_range xs a (i + 1) ≡ slice_range xs a i ++ x ∷ []
range-more xs a i x le less is =
    let e : i + 1 - a ≡ (i - a) + 1 = omega (arith, le) in
    let f : a + (i - a) ≡ i = omega (arith, le) in
    let few : i - a < length (drop a xs) = rw length-drop (omega (arith, le, less)) in
    rw e (take_more (drop a xs) (i - a) x few
    ∙ ap (λ y. take (i - a) (drop a xs) ++ y ∷ []) (get_or-drop a xs (i - a) x ∙ ap (λ k. get_or xs k x) f ∙ sym is))

range-one : {X : Type 0} (xs : List X) (i : ℕ) (x : X) → i < length xs → x ≡ get_or xs i x → slice_range xs i (i + 1) ≡ x ∷ []
range-one xs i x less is = range-more xs i i x (omega arith) less is ∙ ap (λ ys. ys ++ x ∷ []) (range-none xs i)

-- the next suspicion begins with this account
pub next_case : (n : ℕ) (xs : List Account) (a i : ℕ) (x : Account) → i < length xs → x ≡ get_or xs i x → is_blame n x.happening.fact ≡ true
    → last_case n (slice_range xs a i) true (drop i xs) ≡ last_case n (slice_range xs i (i + 1)) false (drop (i + 1) xs)
next_case n xs a i x less is begins = rw (range-one xs i x less is, left-more xs i x less is, begins) refl

-- or it is one more of the same suspicion
pub same_case : (n : ℕ) (xs : List Account) (a i : ℕ) (x : Account) (over then : Bool) → a ≤ i → i < length xs → x ≡ get_or xs i x
    → (over || lets_go n (slice_range xs a i) x) ≡ then
    → (over && is_blame n x.happening.fact) ≡ false
    → last_case n (slice_range xs a i) over (drop i xs) ≡ last_case n (slice_range xs a (i + 1)) then (drop (i + 1) xs)
same_case n xs a i x over then le less is ends goes = rw (range-more xs a i x le less is, left-more xs i x less is, goes, ends) refl

pub not-and : (a b : Bool) → b ≡ false → (a && b) ≡ false
not-and true b h = h
not-and false b h = refl

pub or-true : (a b : Bool) → b ≡ true → (a || b) ≡ true
or-true true b h = refl
or-true false b h = h

pub or-false : (a b : Bool) → b ≡ false → (a || b) ≡ a
or-false true b h = refl
or-false false b h = h
