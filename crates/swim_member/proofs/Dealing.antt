-- Lists that are dealt: nobody stands in them twice.
use Rattle.std.proofs.Common.{◌≡◌, ◌≢◌, ℕ, zero, suc, ◌+◌, ◌<◌, ◌≤◌, ◌==◌, Bool, true, false, cond, refl, sym, ◌∙◌, ap, List, [], ◌∷◌, map, length, Option, Some, None, slice_get, take, get_or, arith}
use Rattle.std.specs.List.{filter, find, cons_option, IsDistinct, AllByRecursion}
use Rattle.std.proofs.lemmas.Bool.{ne_eqb, eqb-false, false≢true}
use Rattle.std.proofs.lemmas.Option.{slice_get_past, slice_get_read}
use Rattle.std.proofs.lemmas.List.{drop_more, take_all, length-drop}
use Rattle.std.specs.Slice.{IsItemAt}
use Rattle.std.specs.Option.{option_copied, is_some}
use Rattle.std.proofs.Common.{Bor, ◌-◌, ◌++◌, drop, append_assoc}
use Rattle.swim_rules.specs.declared.table.Row.{Row}
use Rattle.swim_rules.specs.Rows.{is_eligible, AreAbove, AreInOrder}
use Rattle.swim_rules.proofs.Tables.{order-above}
use Rattle.swim_member.specs.Member.{row_name}
use Rattle.swim_member.specs.Turn.{dealt}
use Rattle.swim_rules.proofs.Dealing.{another}

-- what a slice gives at a place
pub copied-item : (xs : List ℕ) (i : ℕ) (r : Option (Bor ℕ)) → IsItemAt xs i r → option_copied r ≡ slice_get xs i
copied-item xs i None h = sym (slice_get_past xs i h.3)
copied-item xs i (Some x) h = sym (slice_get_read xs (length xs) i x.now refl h.3.0 h.1)

-- all that is left of a list from a place on
pub rest-whole : (place : ℕ) (xs : List ℕ) → take (length xs - place) (drop place xs) ≡ drop place xs
rest-whole place xs = let short : length (drop place xs) ≡ length xs - place = length-drop place xs in take_all (length xs - place) (drop place xs) (omega arith)

-- one that passes is the first of those from it on that does
pub find-here : (p : ℕ → Bool) (xs : List ℕ) (i d : ℕ) → i < length xs → p (get_or xs i d) ≡ true → find p (drop i xs) ≡ Some (get_or xs i d)
find-here p xs i d l h = ap (find p) (drop_more xs i d l) ∙ ap (λ b. cond b (Some (get_or xs i d)) (find p (drop (i + 1) xs))) h

-- Lists that are dealt

-- two that stand at two places differ
apart : (names : List ℕ) → IsDistinct (λ x y. x == y) names → (m n x y : ℕ) → m ≢ n → slice_get names m ≡ Some x → slice_get names n ≡ Some y → x ≢ y
unfolding IsDistinct
apart [] h m n x y k e f = absurd (cc)
apart (z ∷ names) h zero zero x y k e f = absurd (k refl)
apart (z ∷ names) h zero (suc n) x y k e f = let same : z ≡ x = cc in eqb-false x y (ap (λ w. w == y) (sym same) ∙ another z names n y h.0 f)
apart (z ∷ names) h (suc m) zero x y k e f = let same : z ≡ y = cc in λ g. eqb-false z x (another z names m x h.0 e) (same ∙ sym g)
apart (z ∷ names) h (suc m) (suc n) x y k e f = apart names h.1 m n x y (λ g. k (ap suc g)) e f

not-dealt : (names : List ℕ) → IsDistinct (λ x y. x == y) names → (n x : ℕ) → slice_get names n ≡ Some x → (deal : List ℕ) → AllByRecursion (λ m. (n == m) ≡ false) deal → AllByRecursion (λ y. (x == y) ≡ false) (dealt names deal)
not-dealt names h n x e [] k = tt
not-dealt names h n x e (m ∷ deal) k = at (slice_get names m) refl (not-dealt names h n x e deal k.1)
  where
    at : (o : Option ℕ) → slice_get names m ≡ o → AllByRecursion (λ y. (x == y) ≡ false) (dealt names deal) → AllByRecursion (λ y. (x == y) ≡ false) (cons_option o (dealt names deal))
    at None f r = r
    at (Some y) f r = (ne_eqb x y (apart names h n m x y (eqb-false n m k.0) e f), r)

-- a list that has a first is not empty
pub first-within : (names : List ℕ) → is_some (slice_get names 0) ≡ true → 1 ≤ length names
first-within [] h = absurd (false≢true h)
first-within (x ∷ names) h = omega arith

-- a number names one more, or nobody
dealt-next : (names deal : List ℕ) (i : ℕ) → i < length deal → dealt names (drop i deal) ≡ cons_option (slice_get names (get_or deal i 0)) (dealt names (drop (i + 1) deal))
dealt-next names deal i l = ap (dealt names) (drop_more deal i 0 l)

pub dealt-one : (names deal listed all : List ℕ) (i x : ℕ) → i < length deal → slice_get names (get_or deal i 0) ≡ Some x → listed ++ dealt names (drop i deal) ≡ all → (listed ++ x ∷ []) ++ dealt names (drop (i + 1) deal) ≡ all
dealt-one names deal listed all i x l e h =
    append_assoc listed (x ∷ []) (dealt names (drop (i + 1) deal))
    ∙ ap (λ o. listed ++ cons_option o (dealt names (drop (i + 1) deal))) (sym e)
    ∙ ap (λ rest. listed ++ rest) (sym (dealt-next names deal i l))
    ∙ h

pub dealt-nobody : (names deal listed all : List ℕ) (i : ℕ) → i < length deal → slice_get names (get_or deal i 0) ≡ None → listed ++ dealt names (drop i deal) ≡ all → listed ++ dealt names (drop (i + 1) deal) ≡ all
dealt-nobody names deal listed all i l e h =
    ap (λ o. listed ++ cons_option o (dealt names (drop (i + 1) deal))) (sym e)
    ∙ ap (λ rest. listed ++ rest) (sym (dealt-next names deal i l))
    ∙ h

-- a deal names nobody twice
pub distinct-dealt : (names : List ℕ) → IsDistinct (λ x y. x == y) names → (deal : List ℕ) → IsDistinct (λ m n. m == n) deal → IsDistinct (λ x y. x == y) (dealt names deal)
unfolding IsDistinct
distinct-dealt names a [] h = tt
distinct-dealt names a (n ∷ deal) h = at (slice_get names n) refl (distinct-dealt names a deal h.1)
  where
    at : (o : Option ℕ) → slice_get names n ≡ o → IsDistinct (λ x y. x == y) (dealt names deal) → IsDistinct (λ x y. x == y) (cons_option o (dealt names deal))
    at None f r = r
    at (Some x) f r = (not-dealt names a n x f deal h.0, r)

above : (x y : ℕ) (rows : List Row) → AreAbove y rows → x ≤ y → AllByRecursion (λ z. (x == z) ≡ false) (map row_name (filter is_eligible rows))
above x y [] h l = tt
above x y (r ∷ rows) h l = let k : y < r.update.who = h.0 in at (is_eligible r) (ne_eqb x r.update.who (λ e. omega arith)) (above x r.update.who rows h.1 (omega arith))
  where
    at : (b : Bool) → (x == r.update.who) ≡ false → AllByRecursion (λ z. (x == z) ≡ false) (map row_name (filter is_eligible rows)) → AllByRecursion (λ z. (x == z) ≡ false) (map row_name (cond b (r ∷ filter is_eligible rows) (filter is_eligible rows)))
    at true e k = (e, k)
    at false e k = k

-- rows in order are about different members
pub distinct-names : (rows : List Row) → AreInOrder rows → IsDistinct (λ x y. x == y) (map row_name (filter is_eligible rows))
unfolding IsDistinct
distinct-names [] h = tt
distinct-names (r ∷ rows) h = at (is_eligible r) (above r.update.who r.update.who rows h (omega arith)) (distinct-names rows (order-above r.update.who rows h))
  where
    at : (b : Bool) → AllByRecursion (λ z. (r.update.who == z) ≡ false) (map row_name (filter is_eligible rows)) → IsDistinct (λ x y. x == y) (map row_name (filter is_eligible rows)) → IsDistinct (λ x y. x == y) (map row_name (cond b (r ∷ filter is_eligible rows) (filter is_eligible rows)))
    at true e k = (e, k)
    at false e k = k
