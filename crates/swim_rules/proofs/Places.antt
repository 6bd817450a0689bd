-- Where a row stands among rows in order.
use Rattle.std.proofs.Common.{◌≡◌, ℕ, ◌<◌, ◌≤◌, nat_lt, nat_le, true, false, refl, sym, ◌∙◌, inl, inr, List, [], ◌∷◌, length, slice_get, slice_index_or, arith, zero, suc}
use Rattle.std.specs.List.{AllWithin, find}
use Rattle.std.specs.List.Sorted.{IsNonDecreasingBy}
use Rattle.std.proofs.lemmas.Bool.{cases_Bool, eqb-true, eqb-false, eq-eqb, ne_eqb, ltb-true, ltb-false, leb-true, leb-false, lt-ltb, le-ltb, le-leb, lt-leb}
use Rattle.swim_rules.specs.declared.table.Row.{Row}
use Rattle.swim_rules.specs.Rows.{AreAbove, AreInOrder, remove_row, is_after}
use Rattle.swim_rules.specs.Machinery.Places.{IsRowAt, IsGapAt, row_place, is_there}
use Rattle.swim_rules.proofs.Tables.{row_of-below, order-above}

row_here : (r : Row) (rows : List Row) (who : ℕ) → r.update.who ≡ who → IsRowAt (r ∷ rows) who 0
row_here r rows who e = record {
  within = omega arith;
  found = rw (eq-eqb r.update.who who e) refl;
  put = λ q k. rw (le-ltb r.update.who q.update.who (omega arith), eq-eqb r.update.who q.update.who (e ∙ sym k)) refl;
  removed = rw (eq-eqb r.update.who who e) refl;
}

row_later : (r : Row) (rows : List Row) (who i : ℕ) → r.update.who < who → IsRowAt rows who i → IsRowAt (r ∷ rows) who (suc i)
row_later r rows who i l at = record {
  within = let inside = at.within in omega arith;
  found = rw (ne_eqb r.update.who who (λ e. omega arith)) at.found;
  put = λ q k. rw (lt-ltb r.update.who q.update.who (omega arith), at.put q k) refl;
  removed = rw (ne_eqb r.update.who who (λ e. omega arith), at.removed) refl;
}

absent-remove : (x : ℕ) (rows : List Row) (z : ℕ) → z ≤ x → AreAbove x rows → remove_row rows z ≡ rows
absent-remove x [] z l h = refl
absent-remove x (r ∷ rows) z l h = rw (ne_eqb r.update.who z (λ e. omega arith), absent-remove r.update.who rows z (omega arith) h.1) refl

gap_here : (r : Row) (rows : List Row) (who : ℕ) → AreInOrder (r ∷ rows) → who < r.update.who → IsGapAt (r ∷ rows) who 0
gap_here r rows who h l = record {
  within = omega arith;
  none = row_of-below who who (r ∷ rows) (omega arith) (l, h);
  put = λ q k. rw (le-ltb r.update.who q.update.who (omega arith), ne_eqb r.update.who q.update.who (λ e. omega arith)) refl;
  removed = absent-remove who (r ∷ rows) who (omega arith) (l, h);
}

gap_later : (r : Row) (rows : List Row) (who i : ℕ) → r.update.who < who → IsGapAt rows who i → IsGapAt (r ∷ rows) who (suc i)
gap_later r rows who i l gap = record {
  within = let inside = gap.within in omega arith;
  none = rw (ne_eqb r.update.who who (λ e. omega arith)) gap.none;
  put = λ q k. rw (lt-ltb r.update.who q.update.who (omega arith), gap.put q k) refl;
  removed = rw (ne_eqb r.update.who who (λ e. omega arith), gap.removed) refl;
}

pub at_place : (who : ℕ) (rows : List Row) → AreInOrder rows → is_there (slice_get rows (row_place who rows)) who ≡ true → IsRowAt rows who (row_place who rows)
at_place who [] h t = absurd (cc)
at_place who (r ∷ rows) h t =
    elim (cases_Bool (nat_le who r.update.who)) [
      | inl le ↦ rw le (row_here r rows who (eqb-true r.update.who who (rw le at t)))
      | inr gt ↦ rw gt (row_later r rows who (row_place who rows) (leb-false who r.update.who gt) (at_place who rows (order-above r.update.who rows h) (rw gt at t)))
    ]

pub no_place : (who : ℕ) (rows : List Row) → AreInOrder rows → is_there (slice_get rows (row_place who rows)) who ≡ false → IsGapAt rows who (row_place who rows)
no_place who [] h t = record { within = omega arith; none = refl; put = λ r e. refl; removed = refl }
no_place who (r ∷ rows) h t =
    elim (cases_Bool (nat_le who r.update.who)) [
      | inl le ↦ rw le (gap_here r rows who h (let apart : r.update.who ≡ who → ⊥ = eqb-false r.update.who who (rw le at t) in let below : who ≤ r.update.who = leb-true who r.update.who le in omega arith))
      | inr gt ↦ rw gt (gap_later r rows who (row_place who rows) (leb-false who r.update.who gt) (no_place who rows (order-above r.update.who rows h) (rw gt at t)))
    ]

above-later : (x : ℕ) (rows : List Row) (j : ℕ) (d : Row) → AreAbove x rows → j < length rows → x < (slice_index_or rows j d).update.who
above-later x [] j d h l = omega arith
above-later x (r ∷ rows) zero d h l = h.0
above-later x (r ∷ rows) (suc j) d h l =
    let first : x < r.update.who = h.0 in
    let later : r.update.who < (slice_index_or rows j d).update.who = above-later r.update.who rows j d h.1 (omega arith) in
    omega arith

-- rows in order rise, as a binary search asks
pub order-rises : (rows : List Row) → AreInOrder rows → IsNonDecreasingBy (λ r. r.update.who) rows
order-rises [] h i j d l k = omega arith
order-rises (r ∷ rows) h zero zero d l k = omega arith
order-rises (r ∷ rows) h zero (suc j) d l k =
    let later : r.update.who < (slice_index_or rows j d).update.who = above-later r.update.who rows j d h (omega arith) in
    omega arith
order-rises (r ∷ rows) h (suc i) zero d l k = omega arith
order-rises (r ∷ rows) h (suc i) (suc j) d l k = order-rises rows (order-above r.update.who rows h) i j d (omega arith) (omega arith)

-- the place is where the rows before who end
pub place-parted : (who : ℕ) (rows : List Row) (i : ℕ) → i ≤ length rows → AllWithin (λ r. nat_lt r.update.who who ≡ true) rows 0 i → AllWithin (λ r. nat_lt r.update.who who ≡ false) rows i (length rows) → i ≡ row_place who rows
place-parted who [] i l before after = omega arith
place-parted who (r ∷ rows) zero l before after =
    rw (le-leb who r.update.who (ltb-false r.update.who who (after 0 r (omega arith) (omega arith)))) refl
place-parted who (r ∷ rows) (suc i) l before after =
    rw (lt-leb who r.update.who (ltb-true r.update.who who (before 0 r (omega arith) (omega arith))))
    (let rest : i ≡ row_place who rows = place-parted who rows i (omega arith) (λ k d p q. before (suc k) d (omega arith) (omega arith)) (λ k d p q. after (suc k) d (omega arith) (omega arith)) in cc)

-- the first row after a cursor stands where the rows up to the cursor end
pub find-parted : (cursor : ℕ) (rows : List Row) (i : ℕ) → i ≤ length rows → AllWithin (λ r. nat_le r.update.who cursor ≡ true) rows 0 i → AllWithin (λ r. nat_le r.update.who cursor ≡ false) rows i (length rows) → find (is_after cursor) rows ≡ slice_get rows i
find-parted cursor [] zero l before after = refl
find-parted cursor [] (suc i) l before after = absurd (omega arith)
find-parted cursor (r ∷ rows) zero l before after =
    rw (lt-ltb cursor r.update.who (leb-false r.update.who cursor (after 0 r (omega arith) (omega arith)))) refl
find-parted cursor (r ∷ rows) (suc i) l before after =
    rw (le-ltb cursor r.update.who (leb-true r.update.who cursor (before 0 r (omega arith) (omega arith))))
    (find-parted cursor rows i (omega arith) (λ k d p q. before (suc k) d (omega arith) (omega arith)) (λ k d p q. after (suc k) d (omega arith) (omega arith)))
