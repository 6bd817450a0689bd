-- What the tests of a state show, from which a member goes on.
use Rattle.std.proofs.Common.{◌≡◌, ℕ, ◌+◌, ◌*◌, ◌≤◌, ◌==◌, ◌||◌, nat_le, nat_lt, Bool, true, false, cond, not, refl, sym, ◌∙◌, ap, List, [], ◌∷◌, length, Option, Some, None}
use Rattle.std.specs.List.{filter, list_all, list_any, IsDistinct}
use Rattle.std.proofs.lemmas.Bool.{and_parts, not-true, ltb-true, leb-true, eqb-true, false≢true}
use Rattle.std.proofs.lemmas.Map.Keys.{IsDistinct-cons}
use Rattle.swim_member.proofs.TurnLists.{none-any}
use Rattle.swim_wire.specs.declared.update.TheConstants.{NUMBER_MAX}
use Rattle.swim_rules.specs.declared.table.Row.{Row}
use Rattle.swim_rules.specs.Rules.{is_about}
use Rattle.swim_rules.specs.Rows.{AreAbove, AreInOrder, row_of}
use Rattle.swim_gossip.specs.declared.buffer.Waiting.{Waiting}
use Rattle.swim_gossip.specs.Queue.{AreApart, is_queued, AreWithin, NeverRise}
use Rattle.swim_gossip.proofs.Raised.{within-more}
use Rattle.swim_member.specs.declared.resume.ResumeFault.{ResumeFault}
use Rattle.swim_member.specs.declared.state.Relay.{Relay}
use Rattle.swim_member.specs.declared.tick.TheConstants.{LAST_TIME}
use Rattle.swim_member.specs.Fit.{is_low, may_stand, may_wait}
use Rattle.swim_member.specs.Machinery.Kept.{is_row, AllWait}
use Rattle.swim_member.specs.Machinery.Steps.{is_live}
use Rattle.swim_member.specs.Resuming.{are_apart, are_ascending, are_distinct, are_falling, is_known, is_queue, is_told, is_within_sends, may_be_rows, resume_fault}
use Rattle.swim_member.specs.State.{State}

-- each test of the state holds
pub record Passes (s : State) : Type 0 where
  pub number : nat_le s.number NUMBER_MAX ≡ true
  pub time : nat_le s.time LAST_TIME ≡ true
  pub rows : may_be_rows s.settings.me s.rows ≡ true
  pub queue : is_queue s.settings.me s.rows s.queue ≡ true
  pub said : list_all (may_wait s.settings.me s.number) s.queue ≡ true
  pub sent : list_all (is_within_sends (s.settings.lambda * 9)) s.queue ≡ true
  pub relays : list_all (is_live s.time s.settings.period) s.relays ≡ true
  pub listed : are_distinct s.listed ≡ true
  pub place : nat_le s.place (length s.listed) ≡ true
  pub falling : are_falling (s.settings.lambda * 9) s.queue ≡ true

passed : (b : Bool) (fault : ResumeFault) (rest : Option ResumeFault) → cond (not b) (Some fault) rest ≡ None → (b ≡ true) × (rest ≡ None)
passed true fault rest h = (refl, h)
passed false fault rest h = absurd (cc)

pub passes : (s : State) → resume_fault s ≡ None → Passes s
passes s h =
    let number = passed (nat_le s.number NUMBER_MAX) _ _ h in
    let time = passed (nat_le s.time LAST_TIME) _ _ number.1 in
    let rows = passed (may_be_rows s.settings.me s.rows) _ _ time.1 in
    let queue = passed (is_queue s.settings.me s.rows s.queue) _ _ rows.1 in
    let said = passed (list_all (may_wait s.settings.me s.number) s.queue) _ _ queue.1 in
    let sent = passed (list_all (is_within_sends (s.settings.lambda * 9)) s.queue) _ _ said.1 in
    let relays = passed (list_all (is_live s.time s.settings.period) s.relays) _ _ sent.1 in
    let listed = passed (are_distinct s.listed) _ _ relays.1 in
    let place = passed (nat_le s.place (length s.listed)) _ _ listed.1 in
    let falling = passed (are_falling (s.settings.lambda * 9) s.queue) _ _ place.1 in
    record { number = number.0; time = time.0; rows = rows.0; queue = queue.0; said = said.0; sent = sent.0; relays = relays.0; listed = listed.0; place = place.0; falling = falling.0 }

-- Rows

above-ascending : (x : ℕ) (rows : List Row) → are_ascending x rows ≡ true → AreAbove x rows
above-ascending x [] h = tt {0}
above-ascending x (r ∷ rows) h =
    let parts : (nat_lt x r.update.who ≡ true) × (are_ascending r.update.who rows ≡ true) = and_parts (nat_lt x r.update.who) (are_ascending r.update.who rows) h in
    (ltb-true x r.update.who parts.0, above-ascending r.update.who rows parts.1)

order-above_none : (rows : List Row) → AreAbove 0 rows → AreInOrder rows
order-above_none [] h = tt {0}
order-above_none (r ∷ rows) h = h.1

pub order-rows : (me : ℕ) (rows : List Row) → may_be_rows me rows ≡ true → AreInOrder rows
order-rows me rows h = order-above_none rows (above-ascending 0 rows (and_parts (are_ascending 0 rows) (list_all (may_stand me) rows) h).0)

pub stand-rows : (me : ℕ) (rows : List Row) → may_be_rows me rows ≡ true → list_all (may_stand me) rows ≡ true
stand-rows me rows h = (and_parts (are_ascending 0 rows) (list_all (may_stand me) rows) h).1

pub lacks-stand : (me : ℕ) (rows : List Row) → list_all (may_stand me) rows ≡ true → row_of rows me ≡ None
lacks-stand me [] h = refl
lacks-stand me (r ∷ rows) h =
    let parts : (may_stand me r ≡ true) × (list_all (may_stand me) rows ≡ true) = and_parts (may_stand me r) (list_all (may_stand me) rows) h in
    let other : (r.update.who == me) ≡ false = not-true (r.update.who == me) (and_parts (is_low r.update) (not (r.update.who == me)) parts.0).1 in
    rw other (lacks-stand me rows parts.1)

-- What waits

apart-tested : (queue : List Waiting) → are_apart queue ≡ true → AreApart queue
apart-tested [] h = tt {0}
apart-tested (w ∷ queue) h =
    let parts : (not (is_queued w.update.who queue) ≡ true) × (are_apart queue ≡ true) = and_parts (not (is_queued w.update.who queue)) (are_apart queue) h in
    (not-true (is_queued w.update.who queue) parts.0, apart-tested queue parts.1)

pub within-tested : (most : ℕ) (queue : List Waiting) → list_all (is_within_sends most) queue ≡ true → AreWithin most queue
within-tested most [] h = tt {0}
within-tested most (w ∷ queue) h =
    let parts : (nat_le w.count most ≡ true) × (list_all (is_within_sends most) queue ≡ true) = and_parts (nat_le w.count most) (list_all (is_within_sends most) queue) h in
    (leb-true w.count most parts.0, within-tested most queue parts.1)

within-falling : (most : ℕ) (queue : List Waiting) → are_falling most queue ≡ true → AreWithin most queue
within-falling most [] h = tt {0}
within-falling most (w ∷ queue) h =
    let parts : (nat_le w.count most ≡ true) × (are_falling w.count queue ≡ true) = and_parts (nat_le w.count most) (are_falling w.count queue) h in
    let first : w.count ≤ most = leb-true w.count most parts.0 in
    (first, within-more w.count most queue first (within-falling w.count queue parts.1))

pub falling-tested : (most : ℕ) (queue : List Waiting) → are_falling most queue ≡ true → NeverRise queue
falling-tested most [] h = tt {0}
falling-tested most (w ∷ queue) h =
    let parts : (nat_le w.count most ≡ true) × (are_falling w.count queue ≡ true) = and_parts (nat_le w.count most) (are_falling w.count queue) h in
    (within-falling w.count queue parts.1, falling-tested w.count queue parts.1)

pub any-row : (x : ℕ) (rows : List Row) → list_any (is_about x) rows ≡ is_row (row_of rows x)
any-row x [] = refl
any-row x (r ∷ rows) = at (r.update.who == x) (any-row x rows)
  where
    at : (b : Bool) → list_any (is_about x) rows ≡ is_row (row_of rows x) → (b || list_any (is_about x) rows) ≡ is_row (cond b (Some r) (row_of rows x))
    at true h = refl
    at false h = h

-- who waits is the member itself or has a row
known-at : (me x : ℕ) (rows : List Row) (queue : List Waiting) → list_all (is_known me rows) queue ≡ true → is_queued x queue ≡ true → (me == x || list_any (is_about x) rows) ≡ true
known-at me x rows [] h q = absurd (false≢true q)
known-at me x rows (w ∷ queue) h q =
    let parts : (is_known me rows w ≡ true) × (list_all (is_known me rows) queue ≡ true) = and_parts (is_known me rows w) (list_all (is_known me rows) queue) h in
    at (w.update.who == x) refl q parts.0 (λ k. known-at me x rows queue parts.1 k)
  where
    at : (b : Bool) → (w.update.who == x) ≡ b → (b || is_queued x queue) ≡ true → is_known me rows w ≡ true → (is_queued x queue ≡ true → (me == x || list_any (is_about x) rows) ≡ true) → (me == x || list_any (is_about x) rows) ≡ true
    at true e q k rest = ap (λ (y : ℕ). me == y || list_any (is_about y) rows) (sym (eqb-true w.update.who x e)) ∙ k
    at false e q k rest = rest q

-- who has a row waits
told-at : (x : ℕ) (rows : List Row) (queue : List Waiting) → list_all (is_told queue) rows ≡ true → list_any (is_about x) rows ≡ true → is_queued x queue ≡ true
told-at x [] queue h q = absurd (false≢true q)
told-at x (r ∷ rows) queue h q =
    let parts : (is_told queue r ≡ true) × (list_all (is_told queue) rows ≡ true) = and_parts (is_told queue r) (list_all (is_told queue) rows) h in
    at (r.update.who == x) refl q parts.0 (λ k. told-at x rows queue parts.1 k)
  where
    at : (b : Bool) → (r.update.who == x) ≡ b → (b || list_any (is_about x) rows) ≡ true → is_told queue r ≡ true → (list_any (is_about x) rows ≡ true → is_queued x queue ≡ true) → is_queued x queue ≡ true
    at true e q k rest = ap (λ (y : ℕ). is_queued y queue) (sym (eqb-true r.update.who x e)) ∙ k
    at false e q k rest = rest q

waits-at : (me x : ℕ) (rows : List Row) (queue : List Waiting) → is_queued me queue ≡ true → list_all (is_told queue) rows ≡ true → list_all (is_known me rows) queue ≡ true → is_queued x queue ≡ (me == x || list_any (is_about x) rows)
waits-at me x rows queue own told known = at (is_queued x queue) refl (me == x) refl (list_any (is_about x) rows) refl
  where
    at : (a : Bool) → is_queued x queue ≡ a → (b : Bool) → (me == x) ≡ b → (c : Bool) → list_any (is_about x) rows ≡ c → a ≡ (b || c)
    at true p b q c r = sym (known-at me x rows queue known p) ∙ ap (λ (y : Bool). y || list_any (is_about x) rows) q ∙ ap (λ (y : Bool). b || y) r
    at false p true q c r = sym p ∙ ap (λ (y : ℕ). is_queued y queue) (sym (eqb-true me x q)) ∙ own
    at false p false q true r = sym p ∙ told-at x rows queue told r
    at false p false q false r = refl

pub wait-tested : (me : ℕ) (rows : List Row) (queue : List Waiting) → is_queue me rows queue ≡ true → AllWait me rows queue
wait-tested me rows queue h =
    let count = and_parts (length queue == length rows + 1) _ h in
    let apart = and_parts (are_apart queue) _ count.1 in
    let own = and_parts (is_queued me queue) _ apart.1 in
    let told = and_parts (list_all (is_told queue) rows) (list_all (is_known me rows) queue) own.1 in
    record {
      apart = apart-tested queue apart.0;
      waits = λ x. waits-at me x rows queue own.0 told.0 told.1 ∙ ap (λ (b : Bool). me == x || b) (any-row x rows);
      count = eqb-true (length queue) (length rows + 1) count.0;
    }

-- Relays and the turn list

pub live-tested : (now period : ℕ) (made : List Relay) → list_all (is_live now period) made ≡ true → filter (is_live now period) made ≡ made
live-tested now period [] h = refl
live-tested now period (r ∷ made) h =
    let parts : (is_live now period r ≡ true) × (list_all (is_live now period) made ≡ true) = and_parts (is_live now period r) (list_all (is_live now period) made) h in
    rw parts.0 (ap (λ (rest : List Relay). r ∷ rest) (live-tested now period made parts.1))

pub distinct-tested : (names : List ℕ) → are_distinct names ≡ true → IsDistinct (λ x y. x == y) names
unfolding IsDistinct
distinct-tested [] h = tt {0}
distinct-tested (x ∷ names) h =
    let parts : (not (list_any (λ y. x == y) names) ≡ true) × (are_distinct names ≡ true) = and_parts (not (list_any (λ y. x == y) names)) (are_distinct names) h in
    IsDistinct-cons (λ x y. x == y) x names (none-any x names (not-true (list_any (λ y. x == y) names) parts.0)) (distinct-tested names parts.1)
