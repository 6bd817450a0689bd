-- Rows that are eligible, relays that are the same, the last update.
use Rattle.std.proofs.Common.{◌≡◌, ℕ, not, ◌+◌, ◌<◌, ◌≤◌, ◌==◌, Bool, true, false, cond, refl, sym, ◌∙◌, ap, List, [], ◌∷◌, length, suc, Option, Some, None, arith}
use Rattle.std.specs.List.{filter, list_any, remove}
use Rattle.std.proofs.lemmas.Bool.{eqb-true, ne_eqb}
use Rattle.swim_rules.specs.declared.table.Row.{Row}
use Rattle.swim_wire.specs.declared.update.UpdateKind.{UpdateKind}
use Rattle.swim_wire.specs.declared.update.UpdateKind.TheVariants.{Alive, Suspect, Confirm}
use Rattle.swim_rules.specs.Rows.{AreAbove, AreInOrder, row_of, is_eligible, is_kind, is_of_kind}
use Rattle.swim_rules.proofs.Tables.{order-above}
use Rattle.swim_member.specs.declared.state.Relay.{Relay}
use Rattle.swim_member.specs.Member.{row_name}
use Rattle.swim_member.specs.Readings.{is_relay, without_relay}
use Rattle.swim_member.specs.Machinery.Steps.{relay_place}

abbrev pub is_eligible_row : Option Row → Bool
is_eligible_row None = false
is_eligible_row (Some r) = is_eligible r

none-eligible : (x y : ℕ) (rows : List Row) → AreAbove y rows → x ≤ y → list_any (λ r. row_name r == x) (filter is_eligible rows) ≡ false
none-eligible x y [] h l = refl
none-eligible x y (s ∷ rows) h l = at (is_eligible s) (ne_eqb s.update.who x (λ e. omega arith)) (none-eligible x s.update.who rows h.1 (omega arith))
  where
    at : (b : Bool) → (s.update.who == x) ≡ false → list_any (λ r. row_name r == x) (filter is_eligible rows) ≡ false → list_any (λ r. row_name r == x) (cond b (s ∷ filter is_eligible rows) (filter is_eligible rows)) ≡ false
    at true f k = rw f k
    at false f k = k

-- an eligible row of x is the row of x
pub eligible-row_of : (rows : List Row) (x : ℕ) → AreInOrder rows → list_any (λ r. row_name r == x) (filter is_eligible rows) ≡ is_eligible_row (row_of rows x)
eligible-row_of [] x h = refl
eligible-row_of (s ∷ rows) x h =
    at (is_eligible s) (s.update.who == x) refl refl (eligible-row_of rows x (order-above s.update.who rows h))
  where
    at : (a b : Bool) → is_eligible s ≡ a → (s.update.who == x) ≡ b → list_any (λ r. row_name r == x) (filter is_eligible rows) ≡ is_eligible_row (row_of rows x) → list_any (λ r. row_name r == x) (cond a (s ∷ filter is_eligible rows) (filter is_eligible rows)) ≡ is_eligible_row (cond b (Some s) (row_of rows x))
    at true true p q k = rw q (sym p)
    at true false p q k = rw q k
    at false true p q k = none-eligible x s.update.who rows h (let e : s.update.who ≡ x = eqb-true s.update.who x q in omega arith) ∙ sym p
    at false false p q k = k

-- a relay is removed at its place
pub remove-place : (r : Relay) (relays : List Relay) → relay_place r relays < length relays → remove relays (relay_place r relays) ≡ without_relay r relays
remove-place r [] h = absurd (omega arith)
remove-place r (q ∷ relays) h = at (is_relay r q) h (λ k. remove-place r relays k)
  where
    at : (b : Bool) → cond b 0 (suc (relay_place r relays)) < length (q ∷ relays) → (relay_place r relays < length relays → remove relays (relay_place r relays) ≡ without_relay r relays) → remove (q ∷ relays) (cond b 0 (suc (relay_place r relays))) ≡ cond b relays (q ∷ without_relay r relays)
    at true k f = refl
    at false k f = ap (λ rest. q ∷ rest) (f (omega arith))

pub without-place : (r : Relay) (relays : List Relay) → length relays ≤ relay_place r relays → relays ≡ without_relay r relays
without-place r [] h = refl
without-place r (q ∷ relays) h = at (is_relay r q) h (λ k. without-place r relays k)
  where
    at : (b : Bool) → length (q ∷ relays) ≤ cond b 0 (suc (relay_place r relays)) → (length relays ≤ relay_place r relays → relays ≡ without_relay r relays) → q ∷ relays ≡ cond b relays (q ∷ without_relay r relays)
    at true k f = absurd (omega arith)
    at false k f = ap (λ rest. q ∷ rest) (f (omega arith))

-- Counts by kind

abbrev pub AreCounted : List Row → Type 0
AreCounted rows =
    (length (filter is_eligible rows) ≡ length (filter (is_of_kind Alive) rows) + length (filter (is_of_kind Suspect) rows))
    × (length rows ≡ length (filter is_eligible rows) + length (filter (is_of_kind Confirm) rows))

-- a row is eligible where it is Alive or Suspect, and Confirm where it is not
pub counted : (rows : List Row) → AreCounted rows
counted [] = (refl, refl)
counted (r ∷ rows) = at r.update.kind (counted rows)
  where
    at : (k : UpdateKind) → AreCounted rows
        → (length (cond (not (is_kind Confirm k)) (r ∷ filter is_eligible rows) (filter is_eligible rows)) ≡ length (cond (is_kind Alive k) (r ∷ filter (is_of_kind Alive) rows) (filter (is_of_kind Alive) rows)) + length (cond (is_kind Suspect k) (r ∷ filter (is_of_kind Suspect) rows) (filter (is_of_kind Suspect) rows)))
        × (length (r ∷ rows) ≡ length (cond (not (is_kind Confirm k)) (r ∷ filter is_eligible rows) (filter is_eligible rows)) + length (cond (is_kind Confirm k) (r ∷ filter (is_of_kind Confirm) rows) (filter (is_of_kind Confirm) rows)))
    at Alive h = let e = h.0 in let f = h.1 in (omega arith, omega arith)
    at Suspect h = let e = h.0 in let f = h.1 in (omega arith, omega arith)
    at Confirm h = let e = h.0 in let f = h.1 in (omega arith, omega arith)
