-- How many rows are of a kind, and the earliest of them, when a row comes or goes.
use Rattle.std.proofs.Common.{◌≡◌, ℕ, ◌+◌, ◌-◌, ◌<◌, ◌≤◌, nat_le, Bool, true, false, ◌&&◌, cond, refl, sym, ◌∙◌, ap, min, Some, None, List, [], ◌∷◌, length, suc, zero, slice_set, get_or, arith}
use Rattle.std.specs.List.{find, filter, insert, remove}
use Rattle.std.proofs.lemmas.Bool.{lt-leb}
use Rattle.swim_wire.specs.declared.update.UpdateKind.{UpdateKind}
use Rattle.swim_wire.specs.declared.update.UpdateKind.TheVariants.{Alive, Suspect, Confirm}
use Rattle.swim_rules.specs.declared.table.Row.{Row}
use Rattle.swim_rules.specs.declared.tally.Tally.{Tally}
use Rattle.swim_rules.specs.declared.tally.Tallies.{Tallies}
use Rattle.swim_rules.specs.Rows.{is_of_kind, is_eligible, is_due}
use Rattle.swim_rules.specs.Machinery.Tallies.{earliest, IsTally, AreTallies}

-- how many
abbrev pub count : UpdateKind → List Row → ℕ
count kind rows = length (filter (is_of_kind kind) rows)

pub count-most : (kind : UpdateKind) (rows : List Row) → count kind rows ≤ length rows
count-most kind [] = omega arith
count-most kind (r ∷ rows) = at (is_of_kind kind r) (count-most kind rows)
  where
    at : (b : Bool) → count kind rows ≤ length rows → length (cond b (r ∷ filter (is_of_kind kind) rows) (filter (is_of_kind kind) rows)) ≤ suc (length rows)
    at true h = omega arith
    at false h = omega arith

pub earliest-most : (kind : UpdateKind) (rows : List Row) → earliest kind rows ≤ 18446744073709551615
earliest-most kind [] = omega arith
earliest-most kind (r ∷ rows) = at (is_of_kind kind r) (earliest-most kind rows)
  where
    at : (b : Bool) → earliest kind rows ≤ 18446744073709551615 → cond b (min r.since (earliest kind rows)) (earliest kind rows) ≤ 18446744073709551615
    at true h = omega arith
    at false h = h

-- who is no Confirm is eligible
pub count-eligible : (rows : List Row) → length (filter is_eligible rows) + count Confirm rows ≡ length rows
count-eligible [] = omega arith
count-eligible (r ∷ rows) = at r.update.kind (count-eligible rows)
  where
    at : (kind : UpdateKind) → length (filter is_eligible rows) + count Confirm rows ≡ length rows → length (filter is_eligible (record { update = record r.update { kind = kind }; since = r.since } ∷ rows)) + count Confirm (record { update = record r.update { kind = kind }; since = r.since } ∷ rows) ≡ suc (length rows)
    at Alive h = omega arith
    at Suspect h = omega arith
    at Confirm h = omega arith

-- each row is of one kind
pub count-kinds : (rows : List Row) → count Alive rows + count Suspect rows + count Confirm rows ≡ length rows
count-kinds [] = omega arith
count-kinds (r ∷ rows) = at r.update.kind (count-kinds rows)
  where
    at : (kind : UpdateKind) → count Alive rows + count Suspect rows + count Confirm rows ≡ length rows → (let s : Row = record { update = record r.update { kind = kind }; since = r.since } in count Alive (s ∷ rows) + count Suspect (s ∷ rows) + count Confirm (s ∷ rows)) ≡ suc (length rows)
    at Alive h = omega arith
    at Suspect h = omega arith
    at Confirm h = omega arith

-- two lists that have the same tally
pub record IsSame (kind : UpdateKind) (xs ys : List Row) : Type 0 where
  pub count : count kind xs ≡ count kind ys
  pub since : earliest kind xs ≡ earliest kind ys

same-itself : (kind : UpdateKind) (rows : List Row) → IsSame kind rows rows
same-itself kind rows = record { count = refl; since = refl }

same-then : (kind : UpdateKind) (xs ys zs : List Row) → IsSame kind xs ys → IsSame kind ys zs → IsSame kind xs zs
same-then kind xs ys zs h k = record { count = h.count ∙ k.count; since = h.since ∙ k.since }

same-after : (kind : UpdateKind) (s : Row) (xs ys : List Row) → IsSame kind xs ys → IsSame kind (s ∷ xs) (s ∷ ys)
same-after kind s xs ys h =
    record {
      count = at (is_of_kind kind s) h.count;
      since = ap (λ n. cond (is_of_kind kind s) (min s.since n) n) h.since;
    }
  where
    at : (b : Bool) → count kind xs ≡ count kind ys → length (cond b (s ∷ filter (is_of_kind kind) xs) (filter (is_of_kind kind) xs)) ≡ length (cond b (s ∷ filter (is_of_kind kind) ys) (filter (is_of_kind kind) ys))
    at true e = ap suc e
    at false e = e

same-swap : (kind : UpdateKind) (r s : Row) (rows : List Row) → IsSame kind (r ∷ s ∷ rows) (s ∷ r ∷ rows)
same-swap kind r s rows =
    record {
      count = at (is_of_kind kind r) (is_of_kind kind s) (filter (is_of_kind kind) rows);
      since = since_at (is_of_kind kind r) (is_of_kind kind s) (earliest kind rows);
    }
  where
    at : (a b : Bool) (rest : List Row) → length (cond a (r ∷ cond b (s ∷ rest) rest) (cond b (s ∷ rest) rest)) ≡ length (cond b (s ∷ cond a (r ∷ rest) rest) (cond a (r ∷ rest) rest))
    at true true rest = refl
    at true false rest = refl
    at false true rest = refl
    at false false rest = refl

    since_at : (a b : Bool) (n : ℕ) → cond a (min r.since (cond b (min s.since n) n)) (cond b (min s.since n) n) ≡ cond b (min s.since (cond a (min r.since n) n)) (cond a (min r.since n) n)
    since_at true true n = omega arith
    since_at true false n = refl
    since_at false true n = refl
    since_at false false n = refl

-- it does not matter where a row stands
same-insert : (kind : UpdateKind) (rows : List Row) (i : ℕ) (r : Row) → i ≤ length rows → IsSame kind (r ∷ rows) (insert rows i r)
same-insert kind rows zero r h = same-itself kind (r ∷ rows)
same-insert kind [] (suc i) r h = absurd (omega arith)
same-insert kind (s ∷ rows) (suc i) r h =
    same-then kind (r ∷ s ∷ rows) (s ∷ r ∷ rows) (s ∷ insert rows i r)
    (same-swap kind r s rows)
    (same-after kind s (r ∷ rows) (insert rows i r) (same-insert kind rows i r (omega arith)))

same-set : (kind : UpdateKind) (rows : List Row) (i : ℕ) (r : Row) → i < length rows → IsSame kind (r ∷ remove rows i) (slice_set rows i r)
same-set kind [] i r h = absurd (omega arith)
same-set kind (s ∷ rows) zero r h = same-itself kind (r ∷ rows)
same-set kind (s ∷ rows) (suc i) r h =
    same-then kind (r ∷ s ∷ remove rows i) (s ∷ r ∷ remove rows i) (s ∷ slice_set rows i r)
    (same-swap kind r s (remove rows i))
    (same-after kind s (r ∷ remove rows i) (slice_set rows i r) (same-set kind rows i r (omega arith)))

same-remove : (kind : UpdateKind) (rows : List Row) (i : ℕ) (d : Row) → i < length rows → IsSame kind rows (get_or rows i d ∷ remove rows i)
same-remove kind [] i d h = absurd (omega arith)
same-remove kind (s ∷ rows) zero d h = same-itself kind (s ∷ rows)
same-remove kind (s ∷ rows) (suc i) d h =
    same-then kind (s ∷ rows) (s ∷ get_or rows i d ∷ remove rows i) (get_or rows i d ∷ s ∷ remove rows i)
    (same-after kind s rows (get_or rows i d ∷ remove rows i) (same-remove kind rows i d (omega arith)))
    (same-swap kind s (get_or rows i d) (remove rows i))

tally-same : (kind : UpdateKind) (tally : Tally) (xs ys : List Row) → IsSame kind xs ys → IsTally kind tally xs → IsTally kind tally ys
tally-same kind tally xs ys h t = record { count = t.count ∙ h.count; since = rw (sym h.since) t.since }

tallies-same : (tallies : Tallies) (xs ys : List Row) → ((kind : UpdateKind) → IsSame kind xs ys) → AreTallies tallies xs → AreTallies tallies ys
tallies-same tallies xs ys h t =
    record {
      suspects = tally-same Suspect tallies.suspects xs ys (h Suspect) t.suspects;
      confirms = tally-same Confirm tallies.confirms xs ys (h Confirm) t.confirms;
    }

pub tallies-insert : (tallies : Tallies) (rows : List Row) (i : ℕ) (r : Row) → i ≤ length rows → AreTallies tallies (r ∷ rows) → AreTallies tallies (insert rows i r)
tallies-insert tallies rows i r h t = tallies-same tallies (r ∷ rows) (insert rows i r) (λ kind. same-insert kind rows i r h) t

pub tallies-set : (tallies : Tallies) (rows : List Row) (i : ℕ) (r : Row) → i < length rows → AreTallies tallies (r ∷ remove rows i) → AreTallies tallies (slice_set rows i r)
tallies-set tallies rows i r h t = tallies-same tallies (r ∷ remove rows i) (slice_set rows i r) (λ kind. same-set kind rows i r h) t

pub tallies-remove : (tallies : Tallies) (rows : List Row) (i : ℕ) (r : Row) → i < length rows → r ≡ get_or rows i r → AreTallies tallies rows → AreTallies tallies (r ∷ remove rows i)
tallies-remove tallies rows i r h e t =
    rw e (tallies-same tallies rows (get_or rows i r ∷ remove rows i) (λ kind. same-remove kind rows i r h) t)

pub length-removed : (rows : List Row) (i : ℕ) → i < length rows → length (remove rows i) < length rows
length-removed [] i h = absurd (omega arith)
length-removed (s ∷ rows) zero h = omega arith
length-removed (s ∷ rows) (suc i) h = let rest : length (remove rows i) < length rows = length-removed rows i (omega arith) in omega arith

-- while a row that was heard at this tick would not be due, none is that was not heard before it
pub none-due : (kind : UpdateKind) (ticks now since : ℕ) (rows : List Row) → since ≤ earliest kind rows → now - since < ticks → find (is_due kind ticks now) rows ≡ None
none-due kind ticks now since [] h k = refl
none-due kind ticks now since (r ∷ rows) h k =
    at (is_of_kind kind r) h (λ e. none-due kind ticks now since rows e k)
  where
    at : (b : Bool) → since ≤ cond b (min r.since (earliest kind rows)) (earliest kind rows) → (since ≤ earliest kind rows → find (is_due kind ticks now) rows ≡ None) → cond (b && nat_le ticks (now - r.since)) (Some r) (find (is_due kind ticks now) rows) ≡ None
    at true e rest = rw (lt-leb ticks (now - r.since) (omega arith)) (rest (omega arith))
    at false e rest = rest e
