-- The first members of a table in order ascend.
use Rattle.std.proofs.Common.{◌≡◌, ℕ, zero, suc, ◌+◌, ◌%◌, ◌<◌, Bool, true, List, [], ◌∷◌, ◌++◌, map, take, refl, ap, ◌∙◌, arith, All, Some, get_or, inl, inr}
use Rattle.std.proofs.lemmas.Option.{slice_get_within, get_or_from_slice_get}
use Rattle.std.proofs.lemmas.List.{map-append, take_more}
use Rattle.std.proofs.lemmas.Bool.{and_from, cases_Bool, lt-ltb}
use Rattle.std.proofs.lemmas.List.Elements.{All-head, All-tail}
use Rattle.std.specs.List.{filter, slice_get}
use Rattle.swim_rules.specs.declared.table.Row.{Row}
use Rattle.swim_rules.specs.Rows.{AreAbove, AreInOrder}
use Rattle.swim_rules.proofs.Tables.{above-weaken, order-above}
use Rattle.swim_state.specs.Second.{ascend}
use Rattle.swim_member.specs.Member.{row_name}

above-filter : (test : Row → Bool) (x : ℕ) (rows : List Row) → AreAbove x rows → AreAbove x (filter test rows)
above-filter test x [] above = tt {0}
above-filter test x (r ∷ rows) above = elim (cases_Bool (test r)) [
  | inl t ↦ rw t (above.0, above-filter test r.update.who rows above.1)
  | inr f ↦ rw f (above-filter test x rows (above-weaken x r.update.who rows (let low : x < r.update.who = above.0 in omega arith) above.1))
]

order-filter : (test : Row → Bool) (rows : List Row) → AreInOrder rows → AreInOrder (filter test rows)
order-filter test [] order = tt {0}
order-filter test (r ∷ rows) order = elim (cases_Bool (test r)) [
  | inl t ↦ rw t (above-filter test r.update.who rows order)
  | inr f ↦ rw f (order-filter test rows (order-above r.update.who rows order))
]

above-take : (n x : ℕ) (rows : List Row) → AreAbove x rows → AreAbove x (take n rows)
above-take zero x rows above = tt {0}
above-take (suc n) x [] above = tt {0}
above-take (suc n) x (r ∷ rows) above = (above.0, above-take n r.update.who rows above.1)

ascend-above : (low : ℕ) (rows : List Row) → AreAbove low rows → All (λ who. 0 < who % 65536) (map row_name rows) → ascend low (map row_name rows) ≡ true
ascend-above low [] above ports = refl
ascend-above low (r ∷ rows) above ports =
    let who = r.update.who in
    and_from _ _ (and_from _ _ (lt-ltb low who above.0) (lt-ltb 0 (who % 65536) (All-head (λ w. 0 < w % 65536) who (map row_name rows) ports)))
    (ascend-above who rows above.1 (All-tail (λ w. 0 < w % 65536) who (map row_name rows) ports))

ascend-taken : (n : ℕ) (rows : List Row) → AreInOrder rows → All (λ who. 0 < who % 65536) (map row_name (take n rows)) → ascend 0 (map row_name (take n rows)) ≡ true
ascend-taken zero rows order ports = refl
ascend-taken (suc n) [] order ports = refl
ascend-taken (suc n) (r ∷ rows) order ports =
    let who = r.update.who in
    let port = All-head (λ w. 0 < w % 65536) who (map row_name (take n rows)) ports in
    ascend-above 0 (r ∷ take n rows) (omega (arith, port), above-take n who rows order) ports

-- of a table in order, the first that pass a test
pub ascend-first : (test : Row → Bool) (n : ℕ) (rows : List Row) → AreInOrder rows → All (λ who. 0 < who % 65536) (map row_name (take n (filter test rows))) → ascend 0 (map row_name (take n (filter test rows))) ≡ true
ascend-first test n rows order ports = ascend-taken n (filter test rows) (order-filter test rows order) ports

-- one member more
pub first_more : (n : ℕ) (rows : List Row) (r : Row) → slice_get rows n ≡ Some r → map row_name (take (n + 1) rows) ≡ map row_name (take n rows) ++ row_name r ∷ []
first_more n rows r is =
    ap (λ (l : List Row). map row_name l) (take_more rows n r (slice_get_within rows n r is))
    ∙ map-append row_name (take n rows) (get_or rows n r ∷ [])
    ∙ ap (λ (d : Row). map row_name (take n rows) ++ row_name d ∷ []) (get_or_from_slice_get rows n r r is)
