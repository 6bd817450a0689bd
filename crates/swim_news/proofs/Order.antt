-- Rows in the order of their members.
use Rattle.std.specs.Ordering.{is_lt, nat_cmp}
use Rattle.std.proofs.lemmas.Map.Keys.{ge_from_not_lt}
use Rattle.std.proofs.Common.{◌≤◌, Bool, true, false, IsTrue, ◌↔◌, refl, rules, ◌≡◌, ℕ, zero, suc, ◌+◌, ◌-◌, ◌<◌, List, [], ◌∷◌, ◌++◌, Some, None, length, arith, slice_get}
use Rattle.swim_wire.specs.declared.update.Update.{Update}
use Rattle.swim_news.specs.News.{AreFrom}

from_at : (x i : ℕ) (rows : List Update) (row last : Update) → length rows ≡ i + 1 → AreFrom x rows → slice_get rows i ≡ Some last → last.who < row.who → AreFrom x (rows ++ row ∷ [])
from_at x i [] row last len all is less = absurd omega (arith, len)
from_at x zero (r ∷ []) row last len all is less =
    let same : r ≡ last = cc in
    (all.0, (rw same (omega (arith, less)), tt))
from_at x (suc i) (r ∷ []) row last len all is less = absurd omega (arith, len)
from_at x zero (r ∷ s ∷ rows) row last len all is less = absurd omega (arith, len)
from_at x (suc i) (r ∷ s ∷ rows) row last len all is less = (all.0, from_at (r.who + 1) i (s ∷ rows) row last (omega (arith, len)) all.1 is less)

none_at : (i : ℕ) (rows : List Update) → length rows ≡ i + 1 → slice_get rows i ≡ None → ⊥
none_at i [] len is = absurd omega (arith, len)
none_at zero (r ∷ rows) len is = absurd cc
none_at (suc i) (r ∷ rows) len is = none_at i rows (omega (arith, len)) is

pub after_last : (rows : List Update) (row last : Update) → AreFrom 0 rows → slice_get rows (length rows - 1) ≡ Some last → last.who < row.who → AreFrom 0 (rows ++ row ∷ [])
after_last [] row last all is less = absurd cc
after_last (r ∷ rows) row last all is less = from_at 0 (length (r ∷ rows) - 1) (r ∷ rows) row last (omega arith) all is less

pub after_none : (rows : List Update) (row : Update) → slice_get rows (length rows - 1) ≡ None → AreFrom 0 (rows ++ row ∷ [])
after_none [] row none = (omega arith, tt)
after_none (r ∷ rows) row none = absurd (none_at (length (r ∷ rows) - 1) (r ∷ rows) (omega arith) none)

below_at : (x i : ℕ) (rows : List Update) (row last : Update) → length rows ≡ i + 1 → slice_get rows i ≡ Some last → AreFrom x (rows ++ row ∷ []) → last.who < row.who
below_at x i [] row last len is all = absurd omega (arith, len)
below_at x zero (r ∷ []) row last len is all =
    let same : r ≡ last = cc in
    let less : r.who + 1 ≤ row.who = all.1.0 in
    (rw (← same) (omega (arith, less)))
below_at x (suc i) (r ∷ []) row last len is all = absurd omega (arith, len)
below_at x zero (r ∷ s ∷ rows) row last len is all = absurd omega (arith, len)
below_at x (suc i) (r ∷ s ∷ rows) row last len is all = below_at (r.who + 1) i (s ∷ rows) row last (omega (arith, len)) is all.1

-- where the rows with one more are in order, that one comes after the last
last_below : (rows : List Update) (row last : Update) → AreFrom 0 (rows ++ row ∷ []) → slice_get rows (length rows - 1) ≡ Some last → last.who < row.who
last_below [] row last all is = absurd cc
last_below (r ∷ rows) row last all is = below_at 0 (length (r ∷ rows) - 1) (r ∷ rows) row last (omega arith) is all

pub lt_from_is_lt : (a b : ℕ) → is_lt (nat_cmp a b) ≡ true → a < b
lt_from_is_lt a b less = search (rules, less)

-- whether a row comes after the last
pub after_by : (rows : List Update) (row last : Update) (less : Bool) → AreFrom 0 rows → slice_get rows (length rows - 1) ≡ Some last → is_lt (nat_cmp last.who row.who) ≡ less → IsTrue less ↔ AreFrom 0 (rows ++ row ∷ [])
after_by rows row last true all is less = (λ _. after_last rows row last all is (lt_from_is_lt last.who row.who less), λ _. refl)
after_by rows row last false all is less =
    let ge = ge_from_not_lt last.who row.who less in
    (λ e. absurd cc, λ more. let below : last.who < row.who = last_below rows row last more is in absurd omega (arith, below, ge))

-- the first of rows in order are in order
pub from-left : (x : ℕ) (rows more : List Update) → AreFrom x (rows ++ more) → AreFrom x rows
from-left x [] more all = tt
from-left x (r ∷ rows) more all = (all.0, from-left (r.who + 1) rows more all.1)
