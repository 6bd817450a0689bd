-- A number goes to its place among those that rise.
use Rattle.std.proofs.Common.{◌≡◌, ◌↔◌, ℕ, ◌<◌, ◌≤◌, ◌⊎◌, inl, inr, sym, subst, List, [], ◌∷◌, ◌++◌, length, take, drop, insert, get_or, Contains, Err, arith}
use Rattle.std.specs.List.Sorted.{IsNonDecreasing, IsBinarySearchResult}
use Rattle.std.specs.Ordering.{nat_cmp}
use Rattle.std.proofs.lemmas.Bool.{cases_eq}
use Rattle.std.proofs.lemmas.Grind.{get_or_default_zero}
use Rattle.std.proofs.lemmas.List.{take-append-drop}
use Rattle.std.proofs.lemmas.List.Elements.{Contains-append_left, Contains-append_right, Contains-append_cases, Contains-push}
use Rattle.std.proofs.lemmas.List.Sorted.{IsNonDecreasingBy-insert, searched}
use Rattle.std.proofs.lemmas.Map.Made.{Contains-tail}

-- where a search found none, and says its place
module _ (xs : List ℕ) (x place : ℕ) (search : IsBinarySearchResult (λ y. nat_cmp y x) xs (Err place)) (sorted : IsNonDecreasing xs) where
  between : (place ≤ length xs) × ((k : ℕ) → k < place → get_or xs k 0 < x) × ((k : ℕ) → place ≤ k → k < length xs → x < get_or xs k 0)
  between = searched xs x (Err place) search (λ i j le l. sorted i j 0 le l)

  pub place-within : place ≤ length xs
  place-within = between.0

  -- they rise still
  pub place-sorted : IsNonDecreasing (insert xs place x)
  place-sorted = IsNonDecreasingBy-insert (λ n. n) xs place x sorted between.0 low high
    where
      low : (k d : ℕ) → k < place → get_or xs k d ≤ x
      low k d l =
          let within = between.0 in
          let is = get_or_default_zero xs k d (omega arith) in
          let below = between.1 k l in
          omega arith

      high : (k d : ℕ) → place ≤ k → k < length xs → x ≤ get_or xs k d
      high k d from l =
          let is = get_or_default_zero xs k d l in
          let above = between.2 k from l in
          omega arith

-- and they are those that there were, and this one
pub place-contains : (xs : List ℕ) (x place n : ℕ) → Contains (insert xs place x) n ↔ (Contains xs n ⊎ (n ≡ x))
place-contains xs x place n = (λ h. back (Contains-append_cases (take place xs) (x ∷ drop place xs) n h), forth)
  where
    whole : take place xs ++ drop place xs ≡ xs
    whole = take-append-drop place xs

    after : Contains (x ∷ drop place xs) n → Contains xs n ⊎ (n ≡ x)
    after h = elim (cases_eq x n) [
      | inl e ↦ inr (sym e)
      | inr ne ↦ inl (subst (λ l. Contains l n) whole (Contains-append_right (take place xs) (drop place xs) n (Contains-tail x (drop place xs) n ne h)))
    ]

    back : Contains (take place xs) n ⊎ Contains (x ∷ drop place xs) n → Contains xs n ⊎ (n ≡ x)
    back (inl h) = inl (subst (λ l. Contains l n) whole (Contains-append_left (take place xs) (drop place xs) n h))
    back (inr h) = after h

    old : Contains (take place xs) n ⊎ Contains (drop place xs) n → Contains (insert xs place x) n
    old (inl h) = Contains-append_left (take place xs) (x ∷ drop place xs) n h
    old (inr h) = Contains-append_right (take place xs) (x ∷ drop place xs) n (Contains-append_right (x ∷ []) (drop place xs) n h)

    forth : Contains xs n ⊎ (n ≡ x) → Contains (insert xs place x) n
    forth (inl h) = old (Contains-append_cases (take place xs) (drop place xs) n (subst (λ l. Contains l n) (sym whole) h))
    forth (inr e) = subst (Contains (insert xs place x)) (sym e) (Contains-append_right (take place xs) (x ∷ drop place xs) x (Contains-append_left (x ∷ []) (drop place xs) x (Contains-push [] x)))
