-- What a member may say, through the changes of rows and queue.
use Rattle.std.proofs.Common.{◌≡◌, ◌≢◌, ℕ, ◌≤◌, ◌^◌, ◌==◌, ◌&&◌, ◌||◌, nat_lt, Bool, true, false, cond, not, refl, sym, ◌∙◌, ap, List, [], ◌∷◌, ◌++◌, map, take, zero, suc, Some, slice_index_or, All, arith}
use Rattle.std.specs.List.{find, filter, list_all, AllPass}
use Rattle.std.proofs.lemmas.Bool.{and_parts, le-leb, leb-true, false≢true, eq-eqb, ne_eqb, eqb-true, or_right}
use Rattle.std.proofs.lemmas.List.Folds.{list_all-append}
use Rattle.std.proofs.lemmas.List.Sums.{AllPass-from_list_all}
use Rattle.swim_wire.specs.declared.datagram.Kind.{Kind}
use Rattle.swim_wire.specs.declared.datagram.Kind.TheVariants.{Ping, PingReq, Ack, Join, Page}
use Rattle.swim_wire.specs.Codes.{MayHaveZero}
use Rattle.swim_wire.specs.Spelling.{HasText}
use Rattle.swim_member.specs.declared.answer.Out.{Out}
use Rattle.swim_wire.specs.declared.update.Update.{Update}
use Rattle.swim_rules.specs.declared.table.Row.{Row}
use Rattle.swim_rules.specs.Rows.{put_row, remove_row}
use Rattle.swim_gossip.specs.declared.buffer.Waiting.{Waiting}
use Rattle.swim_gossip.specs.Queue.{is_of, without, offered_queue, raise_all, in_turn, sent_times, update_of, picked_updates}
use Rattle.swim_wire.specs.Reading.{numbers_about}
use Rattle.swim_member.specs.Fit.{is_low, may_say, may_wait, may_stand, may_be_zero, is_fit, AreAll, own_numbers_in}

pub low-is : (u : Update) → u.number ≤ 2 ^ 62 → is_low u ≡ true
low-is u l = le-leb u.number (2 ^ 62) l

pub is-low : (u : Update) → is_low u ≡ true → u.number ≤ 2 ^ 62
is-low u e = leb-true u.number (2 ^ 62) e

pub and-both : (a b : Bool) → a ≡ true → b ≡ true → (a && b) ≡ true
and-both a b p q = ap (λ c. c && b) p ∙ q

pub all-append : {X : Type 0} (p : X → Bool) (xs ys : List X) → list_all p xs ≡ true → list_all p ys ≡ true → list_all p (xs ++ ys) ≡ true
all-append p xs ys a b = list_all-append p xs ys ∙ and-both (list_all p xs) (list_all p ys) a b

all-filter : {X : Type 0} (p q : X → Bool) (xs : List X) → list_all p xs ≡ true → list_all p (filter q xs) ≡ true
all-filter p q [] h = refl
all-filter p q (x ∷ xs) h =
    let parts : (p x ≡ true) × (list_all p xs ≡ true) = and_parts (p x) (list_all p xs) h in
    at (q x) parts.0 (all-filter p q xs parts.1)
  where
    at : (b : Bool) → p x ≡ true → list_all p (filter q xs) ≡ true → list_all p (cond b (x ∷ filter q xs) (filter q xs)) ≡ true
    at true e k = and-both (p x) (list_all p (filter q xs)) e k
    at false e k = k

all-put : (p : Row → Bool) (rows : List Row) (r : Row) → p r ≡ true → list_all p rows ≡ true → list_all p (put_row rows r) ≡ true
all-put p [] r e h = and-both (p r) true e refl
all-put p (s ∷ rows) r e h =
    let parts : (p s ≡ true) × (list_all p rows ≡ true) = and_parts (p s) (list_all p rows) h in
    at (nat_lt s.update.who r.update.who) (s.update.who == r.update.who) parts.0 parts.1 (all-put p rows r e parts.1)
  where
    at : (a b : Bool) → p s ≡ true → list_all p rows ≡ true → list_all p (put_row rows r) ≡ true → list_all p (cond a (s ∷ put_row rows r) (cond b (r ∷ rows) (r ∷ s ∷ rows))) ≡ true
    at true b f g k = and-both (p s) (list_all p (put_row rows r)) f k
    at false true f g k = and-both (p r) (list_all p rows) e g
    at false false f g k = and-both (p r) (list_all p (s ∷ rows)) e h

all-take : (p : Update → Bool) (n : ℕ) (us : List Update) → list_all p us ≡ true → list_all p (take n us) ≡ true
all-take p zero us h = refl
all-take p (suc n) [] h = refl
all-take p (suc n) (u ∷ us) h =
    let parts : (p u ≡ true) × (list_all p us ≡ true) = and_parts (p u) (list_all p us) h in
    and-both (p u) (list_all p (take n us)) parts.0 (all-take p n us parts.1)

abbrev waiting : (Update → Bool) → Waiting → Bool
waiting p w = p w.update

-- The queue, for any test of updates

pub all-without : (p : Update → Bool) (x : ℕ) (queue : List Waiting) → list_all (λ w. p w.update) queue ≡ true → list_all (λ w. p w.update) (without x queue) ≡ true
all-without p x queue h = all-filter (waiting p) (λ w. not (is_of x w)) queue h

pub all-offered : (p : Update → Bool) (queue : List Waiting) (u : Update) → p u ≡ true → list_all (λ w. p w.update) (without u.who queue) ≡ true → list_all (λ w. p w.update) (offered_queue queue u) ≡ true
all-offered p queue u e h =
    all-append (waiting p) (without u.who queue) (record { update = u; count = 0 } ∷ []) h (and-both (p u) true e refl)

pub all-raised : (p : Update → Bool) (sent : List Update) (queue : List Waiting) → list_all (λ w. p w.update) queue ≡ true → list_all (λ w. p w.update) (map (raise_all sent) queue) ≡ true
all-raised p sent [] h = refl
all-raised p sent (w ∷ queue) h =
    let parts : (p w.update ≡ true) × (list_all (waiting p) queue ≡ true) = and_parts (p w.update) (list_all (waiting p) queue) h in
    and-both (p w.update) (list_all (waiting p) (map (raise_all sent) queue)) parts.0 (all-raised p sent queue parts.1)

all-in_turn : (p : Update → Bool) (n : ℕ) (queue : List Waiting) → list_all (waiting p) queue ≡ true → list_all (waiting p) (in_turn n queue) ≡ true
all-in_turn p zero queue h = refl
all-in_turn p (suc n) queue h =
    all-append (waiting p) (in_turn n queue) (sent_times n queue) (all-in_turn p n queue h) (all-filter (waiting p) (λ w. w.count == n) queue h)

all-updates : (p : Update → Bool) (queue : List Waiting) → list_all (waiting p) queue ≡ true → list_all p (map update_of queue) ≡ true
all-updates p [] h = refl
all-updates p (w ∷ queue) h =
    let parts : (p w.update ≡ true) × (list_all (waiting p) queue ≡ true) = and_parts (p w.update) (list_all (waiting p) queue) h in
    and-both (p w.update) (list_all p (map update_of queue)) parts.0 (all-updates p queue parts.1)

-- what is carried
pub all-picked : (p : Update → Bool) (limit room : ℕ) (queue : List Waiting) → list_all (λ w. p w.update) queue ≡ true → list_all p (picked_updates limit room queue) ≡ true
all-picked p limit room queue h = all-take p room (map update_of (in_turn limit queue)) (all-updates p (in_turn limit queue) (all-in_turn p limit queue h))

-- What may be said

say-other : (me n : ℕ) (u : Update) → u.who ≢ me → u.number ≤ 2 ^ 62 → may_say me n u ≡ true
say-other me n u ne l = and-both (is_low u) (not (u.who == me) || (u.number == n)) (low-is u l) (ap (λ b. not b || (u.number == n)) (ne_eqb u.who me ne))

pub say-own : (me n : ℕ) (u : Update) → u.number ≡ n → n ≤ 2 ^ 62 → may_say me n u ≡ true
say-own me n u e l =
    and-both (is_low u) (not (u.who == me) || (u.number == n)) (low-is u (omega arith)) (or_right (not (u.who == me)) (u.number == n) (eq-eqb u.number n e))

-- what waits, about others, whatever the own number
say-without : (me n m : ℕ) (queue : List Waiting) → list_all (may_wait me n) queue ≡ true → list_all (may_wait me m) (without me queue) ≡ true
say-without me n m [] h = refl
say-without me n m (w ∷ queue) h =
    let parts : (may_wait me n w ≡ true) × (list_all (may_wait me n) queue ≡ true) = and_parts (may_wait me n w) (list_all (may_wait me n) queue) h in
    let low : is_low w.update ≡ true = (and_parts (is_low w.update) (not (w.update.who == me) || (w.update.number == n)) parts.0).0 in
    at (w.update.who == me) refl low (say-without me n m queue parts.1)
  where
    at : (b : Bool) → (w.update.who == me) ≡ b → is_low w.update ≡ true → list_all (may_wait me m) (without me queue) ≡ true → list_all (may_wait me m) (cond (not b) (w ∷ without me queue) (without me queue)) ≡ true
    at true e low k = k
    at false e low k =
        and-both (may_wait me m w) (list_all (may_wait me m) (without me queue)) (and-both (is_low w.update) (not (w.update.who == me) || (w.update.number == m)) low (ap (λ b. not b || (w.update.number == m)) e)) k

-- an update about another member begins to wait
pub say-offered : (me n : ℕ) (queue : List Waiting) (u : Update) → u.who ≢ me → u.number ≤ 2 ^ 62 → list_all (may_wait me n) queue ≡ true → list_all (may_wait me n) (offered_queue queue u) ≡ true
say-offered me n queue u ne l h = all-offered (may_say me n) queue u (say-other me n u ne l) (all-without (may_say me n) u.who queue h)

-- the own update with another number begins to wait
pub say-spoken : (me n m : ℕ) (queue : List Waiting) (u : Update) → u.who ≡ me → u.number ≡ m → m ≤ 2 ^ 62 → list_all (may_wait me n) queue ≡ true → list_all (may_wait me m) (offered_queue queue u) ≡ true
say-spoken me n m queue u who e l h =
    all-offered (may_say me m) queue u (say-own me m u e l) (ap (λ x. list_all (may_wait me m) (without x queue)) who ∙ say-without me n m queue h)

-- Rows

stand-is : (me : ℕ) (r : Row) → r.update.who ≢ me → r.update.number ≤ 2 ^ 62 → may_stand me r ≡ true
stand-is me r ne l = and-both (is_low r.update) (not (r.update.who == me)) (low-is r.update l) (ap not (ne_eqb r.update.who me ne))

pub stand-put : (me : ℕ) (rows : List Row) (r : Row) → r.update.who ≢ me → r.update.number ≤ 2 ^ 62 → list_all (may_stand me) rows ≡ true → list_all (may_stand me) (put_row rows r) ≡ true
stand-put me rows r ne l h = all-put (may_stand me) rows r (stand-is me r ne l) h

pub stand-remove : (me : ℕ) (rows : List Row) (x : ℕ) → list_all (may_stand me) rows ≡ true → list_all (may_stand me) (remove_row rows x) ≡ true
stand-remove me [] x h = refl
stand-remove me (s ∷ rows) x h =
    let parts : (may_stand me s ≡ true) × (list_all (may_stand me) rows ≡ true) = and_parts (may_stand me s) (list_all (may_stand me) rows) h in
    at (s.update.who == x) parts.0 parts.1 (stand-remove me rows x parts.1)
  where
    at : (b : Bool) → may_stand me s ≡ true → list_all (may_stand me) rows ≡ true → list_all (may_stand me) (remove_row rows x) ≡ true → list_all (may_stand me) (cond b rows (s ∷ remove_row rows x)) ≡ true
    at true e f k = f
    at false e f k = and-both (may_stand me s) (list_all (may_stand me) (remove_row rows x)) e k

pub low-found : (me : ℕ) (test : Row → Bool) (rows : List Row) (r : Row) → list_all (may_stand me) rows ≡ true → find test rows ≡ Some r → r.update.number ≤ 2 ^ 62
low-found me test [] r h e = absurd (cc)
low-found me test (s ∷ rows) r h e =
    let parts : (may_stand me s ≡ true) × (list_all (may_stand me) rows ≡ true) = and_parts (may_stand me s) (list_all (may_stand me) rows) h in
    at (test s) e (and_parts (is_low s.update) (not (s.update.who == me)) parts.0).0 (λ k. low-found me test rows r parts.1 k)
  where
    at : (b : Bool) → cond b (Some s) (find test rows) ≡ Some r → is_low s.update ≡ true → (find test rows ≡ Some r → r.update.number ≤ 2 ^ 62) → r.update.number ≤ 2 ^ 62
    at true k low f = let same : s ≡ r = cc in rw (sym same) (is-low s.update low)
    at false k low f = f k

say-rows : (me n : ℕ) (rows : List Row) → list_all (may_stand me) rows ≡ true → list_all (λ (r : Row). may_say me n r.update) rows ≡ true
say-rows me n [] h = refl
say-rows me n (s ∷ rows) h =
    let parts : (may_stand me s ≡ true) × (list_all (may_stand me) rows ≡ true) = and_parts (may_stand me s) (list_all (may_stand me) rows) h in
    let both : (is_low s.update ≡ true) × (not (s.update.who == me) ≡ true) = and_parts (is_low s.update) (not (s.update.who == me)) parts.0 in
    and-both (may_say me n s.update) (list_all (λ (r : Row). may_say me n r.update) rows)
    (and-both (is_low s.update) (not (s.update.who == me) || (s.update.number == n)) both.0 (ap (λ b. b || (s.update.number == n)) both.1))
    (say-rows me n rows parts.1)

all-row_updates : (p : Update → Bool) (rows : List Row) → list_all (λ (r : Row). p r.update) rows ≡ true → list_all p (map (λ (r : Row). r.update) rows) ≡ true
all-row_updates p [] h = refl
all-row_updates p (r ∷ rows) h =
    let parts : (p r.update ≡ true) × (list_all (λ (s : Row). p s.update) rows ≡ true) = and_parts (p r.update) (list_all (λ (s : Row). p s.update) rows) h in
    and-both (p r.update) (list_all p (map (λ (s : Row). s.update) rows)) parts.0 (all-row_updates p rows parts.1)

-- a page
pub say-paged : (me n k : ℕ) (test : Update → Bool) (rows : List Row) (own : Update) → may_say me n own ≡ true → list_all (may_stand me) rows ≡ true → list_all (may_say me n) (take k (filter test (map (λ (r : Row). r.update) (put_row rows (record { update = own; since = 0 }))))) ≡ true
say-paged me n k test rows own e h =
    all-take (may_say me n) k (filter test (map (λ (r : Row). r.update) (put_row rows (record { update = own; since = 0 }))))
    (all-filter (may_say me n) test (map (λ (r : Row). r.update) (put_row rows (record { update = own; since = 0 })))
    (all-row_updates (may_say me n) (put_row rows (record { update = own; since = 0 }))
    (all-put (λ (r : Row). may_say me n r.update) rows (record { update = own; since = 0 }) e (say-rows me n rows h))))

-- Datagrams that have a text

pub fit-said : (me n : ℕ) (out : Out) → out.datagram.subject ≢ 0 → list_all (may_say me n) out.datagram.updates.items ≡ true → is_fit me n out ≡ true
unfolding is_fit
fit-said me n out ne say =
    let said : not (out.datagram.subject == 0) ≡ true = ap not (ne_eqb out.datagram.subject 0 ne) in
    and-both (may_be_zero out.datagram.kind || not (out.datagram.subject == 0)) (list_all (may_say me n) out.datagram.updates.items)
    (or_right (may_be_zero out.datagram.kind) (not (out.datagram.subject == 0)) said) say

pub fit-open : (me n : ℕ) (out : Out) → may_be_zero out.datagram.kind ≡ true → list_all (may_say me n) out.datagram.updates.items ≡ true → is_fit me n out ≡ true
unfolding is_fit
fit-open me n out open_kind say =
    and-both (may_be_zero out.datagram.kind || not (out.datagram.subject == 0)) (list_all (may_say me n) out.datagram.updates.items)
    (ap (λ b. b || not (out.datagram.subject == 0)) open_kind) say

zero-allowed : (k : Kind) → (may_be_zero k || false) ≡ true → MayHaveZero k
zero-allowed Ping e = absurd (false≢true e)
zero-allowed PingReq e = absurd (false≢true e)
zero-allowed Ack e = absurd (false≢true e)
zero-allowed Join e = tt
zero-allowed Page e = tt

fit-is_encodable : (me n : ℕ) (out : Out) → is_fit me n out ≡ true → HasText out.datagram
unfolding is_fit
fit-is_encodable me n out h =
    let parts : ((may_be_zero out.datagram.kind || not (out.datagram.subject == 0)) ≡ true) × (list_all (may_say me n) out.datagram.updates.items ≡ true) = and_parts (may_be_zero out.datagram.kind || not (out.datagram.subject == 0)) (list_all (may_say me n) out.datagram.updates.items) h in
    let each : AllPass (may_say me n) out.datagram.updates.items = AllPass-from_list_all (may_say me n) out.datagram.updates.items parts.1 in (
      λ zero_subject. zero-allowed out.datagram.kind (ap (λ b. may_be_zero out.datagram.kind || not b) (sym (eq-eqb out.datagram.subject 0 zero_subject)) ∙ parts.0),
      λ k d lt. let u : Update = slice_index_or out.datagram.updates.items k d in is-low u (and_parts (is_low u) (not (u.who == me) || (u.number == n)) (each k d lt)).0,
    )

pub fit-texts : (me n : ℕ) (outs : List Out) → list_all (is_fit me n) outs ≡ true → All (λ out. HasText out.datagram) outs
fit-texts me n outs h k d lt = fit-is_encodable me n (slice_index_or outs k d) (AllPass-from_list_all (is_fit me n) outs h k d lt)

all-numbers : (me n : ℕ) (us : List Update) → list_all (may_say me n) us ≡ true → AreAll n (map (λ (u : Update). u.number) (filter (λ (u : Update). u.who == me) us))
all-numbers me n [] h = tt
all-numbers me n (u ∷ us) h =
    let parts : (may_say me n u ≡ true) × (list_all (may_say me n) us ≡ true) = and_parts (may_say me n u) (list_all (may_say me n) us) h in
    at (u.who == me) (and_parts (is_low u) (not (u.who == me) || (u.number == n)) parts.0).1 (all-numbers me n us parts.1)
  where
    at : (b : Bool) → (not b || (u.number == n)) ≡ true → AreAll n (map (λ (v : Update). v.number) (filter (λ (v : Update). v.who == me) us)) → AreAll n (map (λ (v : Update). v.number) (cond b (u ∷ filter (λ (v : Update). v.who == me) us) (filter (λ (v : Update). v.who == me) us)))
    at true e k = (eqb-true u.number n e, k)
    at false e k = k

are-all-append : (n : ℕ) (xs ys : List ℕ) → AreAll n xs → AreAll n ys → AreAll n (xs ++ ys)
are-all-append n [] ys a b = b
are-all-append n (x ∷ xs) ys a b = (a.0, are-all-append n xs ys a.1 b)

fit-numbers : (me n : ℕ) (out : Out) → is_fit me n out ≡ true → AreAll n (numbers_about me out.datagram)
unfolding is_fit
fit-numbers me n out h =
    all-numbers me n out.datagram.updates.items (and_parts (may_be_zero out.datagram.kind || not (out.datagram.subject == 0)) (list_all (may_say me n) out.datagram.updates.items) h).1

pub fit-own : (me n : ℕ) (outs : List Out) → list_all (is_fit me n) outs ≡ true → AreAll n (own_numbers_in me outs)
fit-own me n [] h = tt
fit-own me n (out ∷ outs) h =
    let parts : (is_fit me n out ≡ true) × (list_all (is_fit me n) outs ≡ true) = and_parts (is_fit me n out) (list_all (is_fit me n) outs) h in
    are-all-append n (numbers_about me out.datagram) (own_numbers_in me outs) (fit-numbers me n out parts.0) (fit-own me n outs parts.1)
