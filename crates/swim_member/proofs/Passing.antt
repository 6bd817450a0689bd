-- That the state of a member passes the tests of a state from which one goes on.
use Rattle.std.proofs.Common.{◌≡◌, ℕ, ◌+◌, ◌*◌, ◌≤◌, ◌==◌, ◌||◌, nat_le, nat_lt, Bool, true, false, cond, not, refl, sym, ◌∙◌, ap, List, [], ◌∷◌, length, Option, Some, None, arith, inl, inr}
use Rattle.std.specs.List.{filter, list_all, list_any, IsDistinct}
use Rattle.std.proofs.lemmas.Bool.{and_from, or_left, or_right, cases_Bool, lt-ltb, le-leb, eq-eqb, false≢true}
use Rattle.std.proofs.lemmas.Map.Keys.{IsDistinct-head, IsDistinct-tail}
use Rattle.swim_member.proofs.TurnLists.{any-none}
use Rattle.swim_wire.specs.declared.update.TheConstants.{NUMBER_MAX}
use Rattle.swim_rules.specs.declared.table.Row.{Row}
use Rattle.swim_rules.specs.Rules.{is_about}
use Rattle.swim_rules.specs.Rows.{AreAbove, Members}
use Rattle.swim_gossip.specs.declared.buffer.Waiting.{Waiting}
use Rattle.swim_gossip.specs.Queue.{AreApart, Gossip, is_queued, AreWithin, NeverRise}
use Rattle.swim_member.specs.declared.resume.ResumeFault.{ResumeFault}
use Rattle.swim_member.specs.declared.state.Relay.{Relay}
use Rattle.swim_member.specs.declared.tick.TheConstants.{LAST_TIME}
use Rattle.swim_member.specs.Fit.{may_stand}
use Rattle.swim_member.specs.Machinery.Kept.{AllWait, IsKept}
use Rattle.swim_member.specs.Machinery.Steps.{is_live}
use Rattle.swim_member.specs.Machinery.Turns.{IsTurn}
use Rattle.swim_member.specs.Resuming.{are_apart, are_ascending, are_distinct, are_falling, is_known, is_queue, is_told, is_within_sends, resume_fault}
use Rattle.swim_member.specs.State.{State}
use Rattle.swim_member.proofs.Resuming.{Passes, any-row}

pass : (b : Bool) (fault : ResumeFault) (rest : Option ResumeFault) → b ≡ true → rest ≡ None → cond (not b) (Some fault) rest ≡ None
pass true fault rest e h = h
pass false fault rest e h = absurd (false≢true e)

none-passes : (s : State) → Passes s → resume_fault s ≡ None
none-passes s p =
    pass _ _ _ p.number (pass _ _ _ p.time (pass _ _ _ p.rows (pass _ _ _ p.queue (pass _ _ _ p.said (pass _ _ _ p.sent (pass _ _ _ p.relays (pass _ _ _ p.listed (pass _ _ _ p.place (pass _ _ _ p.falling refl)))))))))

-- Rows

ascending-above : (x : ℕ) (rows : List Row) → AreAbove x rows → are_ascending x rows ≡ true
ascending-above x [] h = refl
ascending-above x (r ∷ rows) h = and_from (nat_lt x r.update.who) (are_ascending r.update.who rows) (lt-ltb x r.update.who h.0) (ascending-above r.update.who rows h.1)

-- What waits

apart-kept : (queue : List Waiting) → AreApart queue → are_apart queue ≡ true
apart-kept [] h = refl
apart-kept (w ∷ queue) h = and_from (not (is_queued w.update.who queue)) (are_apart queue) (ap not h.0) (apart-kept queue h.1)

within-kept : (most : ℕ) (queue : List Waiting) → AreWithin most queue → list_all (is_within_sends most) queue ≡ true
within-kept most [] h = refl
within-kept most (w ∷ queue) h = and_from (nat_le w.count most) (list_all (is_within_sends most) queue) (le-leb w.count most h.0) (within-kept most queue h.1)

falling-kept : (most : ℕ) (queue : List Waiting) → AreWithin most queue → NeverRise queue → are_falling most queue ≡ true
falling-kept most [] h k = refl
falling-kept most (w ∷ queue) h k = and_from (nat_le w.count most) (are_falling w.count queue) (le-leb w.count most h.0) (falling-kept w.count queue k.0 k.1)

-- who waits among some is the member itself or has a row, where that holds of each who waits among them
known-some : (me : ℕ) (rows : List Row) (some : List Waiting) → ((x : ℕ) → is_queued x some ≡ true → (me == x || list_any (is_about x) rows) ≡ true) → list_all (is_known me rows) some ≡ true
known-some me rows [] h = refl
known-some me rows (w ∷ some) h =
    and_from (is_known me rows w) (list_all (is_known me rows) some)
    (h w.update.who (or_left (w.update.who == w.update.who) (is_queued w.update.who some) (eq-eqb w.update.who w.update.who refl)))
    (known-some me rows some (λ x q. h x (or_right (w.update.who == x) (is_queued x some) q)))

told-some : (queue : List Waiting) (some : List Row) → ((x : ℕ) → list_any (is_about x) some ≡ true → is_queued x queue ≡ true) → list_all (is_told queue) some ≡ true
told-some queue [] h = refl
told-some queue (r ∷ some) h =
    and_from (is_told queue r) (list_all (is_told queue) some)
    (h r.update.who (or_left (r.update.who == r.update.who) (list_any (is_about r.update.who) some) (eq-eqb r.update.who r.update.who refl)))
    (told-some queue some (λ x q. h x (or_right (r.update.who == x) (list_any (is_about x) some) q)))

queue-kept : (me : ℕ) (rows : List Row) (queue : List Waiting) → AllWait me rows queue → is_queue me rows queue ≡ true
queue-kept me rows queue h =
    let each : (x : ℕ) → is_queued x queue ≡ (me == x || list_any (is_about x) rows) = λ x. h.waits x ∙ ap (λ (b : Bool). me == x || b) (sym (any-row x rows)) in
    and_from (length queue == length rows + 1) _ (eq-eqb (length queue) (length rows + 1) h.count)
    (and_from (are_apart queue) _ (apart-kept queue h.apart)
    (and_from (is_queued me queue) _ (each me ∙ or_left (me == me) (list_any (is_about me) rows) (eq-eqb me me refl))
    (and_from (list_all (is_told queue) rows) (list_all (is_known me rows) queue)
    (told-some queue rows (λ x q. each x ∙ or_right (me == x) (list_any (is_about x) rows) q))
    (known-some me rows queue (λ x q. sym (each x) ∙ q)))))

-- Relays and the turn list

few-filter : (p : Relay → Bool) (xs : List Relay) → length (filter p xs) ≤ length xs
few-filter p [] = omega arith
few-filter p (x ∷ xs) =
    let few = few-filter p xs in
    elim (cases_Bool (p x)) [ inl t ↦ rw t (omega arith) | inr f ↦ rw f (omega arith) ]

all-filter : (p : Relay → Bool) (xs : List Relay) → filter p xs ≡ xs → list_all p xs ≡ true
all-filter p [] h = refl
all-filter p (x ∷ xs) h =
    elim (cases_Bool (p x)) [
      | inl t ↦ let same : x ∷ filter p xs ≡ x ∷ xs = rw t at h in let rest : filter p xs ≡ xs = cc in and_from (p x) (list_all p xs) t (all-filter p xs rest)
      | inr f ↦ let less : filter p xs ≡ x ∷ xs = rw f at h in let few = few-filter p xs in let long = ap length less in absurd (omega arith)
    ]

distinct-kept : (names : List ℕ) → IsDistinct (λ x y. x == y) names → are_distinct names ≡ true
distinct-kept [] h = refl
distinct-kept (x ∷ names) h =
    and_from (not (list_any (λ y. x == y) names)) (are_distinct names)
    (ap not (any-none x names (IsDistinct-head (λ x y. x == y) x names h)))
    (distinct-kept names (IsDistinct-tail (λ x y. x == y) x names h))

-- a member that is kept so has a state from which one goes on
pub none-kept : (s : State) (members : Members) (b : Gossip) → IsKept s.settings s.number s.time members b s.relays → members.rows ≡ s.rows → b.queue ≡ s.queue → AreAbove 0 s.rows → AreWithin b.most b.queue → NeverRise b.queue → IsTurn s.listed s.place → resume_fault s ≡ None
none-kept s members b kept rows queue above within falling turn =
    let sent : AreWithin (s.settings.lambda * 9) s.queue = rw (← queue, ← kept.most) within in
    let fall : NeverRise s.queue = rw (← queue) falling in
    none-passes s (record {
      number = le-leb s.number NUMBER_MAX kept.number;
      time = le-leb s.time LAST_TIME kept.time;
      rows = and_from (are_ascending 0 s.rows) (list_all (may_stand s.settings.me) s.rows) (ascending-above 0 s.rows above) (rw (← rows) kept.stand);
      queue = queue-kept s.settings.me s.rows s.queue (rw (← rows, ← queue) kept.wait);
      said = rw (← queue) kept.say;
      sent = within-kept (s.settings.lambda * 9) s.queue sent;
      relays = all-filter (is_live s.time s.settings.period) s.relays kept.live;
      listed = distinct-kept s.listed turn.once;
      place = le-leb s.place (length s.listed) turn.within;
      falling = falling-kept (s.settings.lambda * 9) s.queue sent fall;
    })
