-- Where an update stands, and the slots with a gap in its place.
use Rattle.std.proofs.Common.{◌≡◌, ℕ, ◌+◌, ◌<◌, ◌≤◌, ◌==◌, true, false, refl, sym, ◌∙◌, ap, List, [], ◌∷◌, ◌++◌, length, drop, suc, zero, set, inl, inr, arith}
use Rattle.std.specs.List.{filter, refill}
use Rattle.std.proofs.lemmas.Bool.{cases_Bool, false≢true, eq-eqb, ne_eqb, or_parts, or_right}
use Rattle.std.proofs.lemmas.List.{drop_more, take-append-le, take_all}
use Rattle.swim_wire.specs.Filler.{filler}
use Rattle.swim_gossip.specs.declared.buffer.Waiting.{Waiting}
use Rattle.swim_gossip.specs.declared.slots.BufferSlot.{BufferSlot}
use Rattle.swim_gossip.specs.Queue.{without, is_queued, AreApart}
use Rattle.swim_gossip.specs.Buckets.{at, is_slot_of, wait_of, queue_in}

-- nothing is taken out where nothing is about x
without-absent : (x : ℕ) (queue : List Waiting) → is_queued x queue ≡ false → without x queue ≡ queue
without-absent x [] h = refl
without-absent x (w ∷ queue) h =
    let parts : ((w.update.who == x) ≡ false) × (is_queued x queue ≡ false) = or_parts (w.update.who == x) (is_queued x queue) h in
    rw parts.0 (ap (λ rest. w ∷ rest) (without-absent x queue parts.1))

pub without-none : (x : ℕ) (slots : List BufferSlot) → is_queued x (queue_in slots) ≡ false → queue_in slots ≡ without x (queue_in slots)
without-none x slots h = sym (without-absent x (queue_in slots) h)

queued-at : (slots : List BufferSlot) (i x : ℕ) → (at slots i).waits ≡ true → (at slots i).update.who ≡ x → is_queued x (queue_in slots) ≡ true
queued-at [] i x l k = absurd (false≢true l)
queued-at (s ∷ slots) zero x l k = rw (l, eq-eqb s.update.who x k) refl
queued-at (s ∷ slots) (suc i) x l k =
    elim (cases_Bool s.waits) [
      | inl w ↦ rw w (or_right (s.update.who == x) (is_queued x (queue_in slots)) (queued-at slots i x l k))
      | inr w ↦ rw w (queued-at slots i x l k)
    ]

apart-tail : (s : BufferSlot) (slots : List BufferSlot) → AreApart (queue_in (s ∷ slots)) → AreApart (queue_in slots)
apart-tail s slots h =
    elim (cases_Bool s.waits) [
      | inl w ↦ let parts : (is_queued s.update.who (queue_in slots) ≡ false) × AreApart (queue_in slots) = rw w at h in parts.1
      | inr w ↦ let rest : AreApart (queue_in slots) = rw w at h in rest
    ]

apart-head : (s : BufferSlot) (slots : List BufferSlot) → s.waits ≡ true → AreApart (queue_in (s ∷ slots)) → is_queued s.update.who (queue_in slots) ≡ false
apart-head s slots w h = let parts : (is_queued s.update.who (queue_in slots) ≡ false) × AreApart (queue_in slots) = rw w at h in parts.0

-- of those that are apart one alone is about a member
pub place-one : (slots : List BufferSlot) (i j : ℕ) → AreApart (queue_in slots) → (at slots i).waits ≡ true → (at slots j).waits ≡ true → (at slots i).update.who ≡ (at slots j).update.who → i ≡ j
place-one [] i j h l m e = absurd (false≢true l)
place-one (s ∷ slots) zero zero h l m e = refl
place-one (s ∷ slots) zero (suc j) h l m e = absurd (false≢true (sym (apart-head s slots l h) ∙ queued-at slots j s.update.who m (sym e)))
place-one (s ∷ slots) (suc i) zero h l m e = absurd (false≢true (sym (apart-head s slots m h) ∙ queued-at slots i s.update.who l e))
place-one (s ∷ slots) (suc i) (suc j) h l m e = ap suc (place-one slots i j (apart-tail s slots h) l m e)

abbrev none : BufferSlot
none = record { update = filler; count = 0; waits = false }

-- a slot that is a gap from now on
abbrev pub gap : BufferSlot → BufferSlot
gap s = record { update = s.update; count = s.count; waits = false }

-- a gap in the place of the update about x leaves all others
pub waiting-cleared : (slots : List BufferSlot) (i x : ℕ) → AreApart (queue_in slots) → (at slots i).waits ≡ true → (at slots i).update.who ≡ x → queue_in (set slots i (gap (at slots i))) ≡ without x (queue_in slots)
waiting-cleared [] i x h l k = absurd (false≢true l)
waiting-cleared (s ∷ slots) zero x h l k =
    let absent : is_queued x (queue_in slots) ≡ false = ap (λ (y : ℕ). is_queued y (queue_in slots)) (sym k) ∙ apart-head s slots l h in
    rw (l, eq-eqb s.update.who x k) (sym (without-absent x (queue_in slots) absent))
waiting-cleared (s ∷ slots) (suc i) x h l k =
    let rest : queue_in (set slots i (gap (at slots i))) ≡ without x (queue_in slots) = waiting-cleared slots i x (apart-tail s slots h) l k in
    elim (cases_Bool s.waits) [
      | inl w ↦
          let other : (s.update.who == x) ≡ false = ne_eqb s.update.who x (λ e. false≢true (sym (apart-head s slots w h) ∙ queued-at slots i s.update.who l (k ∙ sym e))) in
          rw (w, other) (ap (λ (ws : List Waiting). wait_of s ∷ ws) rest)
      | inr w ↦ rw w rest
    ]

-- one less waits
pub fewer-cleared : (slots : List BufferSlot) (i : ℕ) → (at slots i).waits ≡ true → length (queue_in (set slots i (gap (at slots i)))) + 1 ≡ length (queue_in slots)
fewer-cleared [] i l = absurd (false≢true l)
fewer-cleared (s ∷ slots) zero l = rw l (omega arith)
fewer-cleared (s ∷ slots) (suc i) l =
    let rest : length (queue_in (set slots i (gap (at slots i)))) + 1 ≡ length (queue_in slots) = fewer-cleared slots i l in
    elim (cases_Bool s.waits) [ inl w ↦ rw w (omega arith) | inr w ↦ rw w rest ]

-- one more slot that is not about x
pub queued-more : (x : ℕ) (slots : List BufferSlot) (i : ℕ) → i < length slots → is_slot_of x (at slots i) ≡ false → is_queued x (queue_in (drop i slots)) ≡ is_queued x (queue_in (drop (i + 1) slots))
queued-more x slots i l h =
    ap (λ (rest : List BufferSlot). is_queued x (queue_in rest)) (drop_more slots i none l)
    ∙ elim (cases_Bool (at slots i).waits) [
      | inl w ↦ let other : ((at slots i).update.who == x) ≡ false = rw w at h in rw (w, other) refl
      | inr w ↦ rw w refl
    ]

-- closed gaps and one more slot
pub waiting-closed : (slots : List BufferSlot) → queue_in (filter (λ s. s.waits) slots) ≡ queue_in slots
waiting-closed [] = refl
waiting-closed (s ∷ slots) =
    elim (cases_Bool s.waits) [
      | inl w ↦ rw w (ap (λ (ws : List Waiting). wait_of s ∷ ws) (waiting-closed slots))
      | inr w ↦ rw w (waiting-closed slots)
    ]

pub length-closed : (slots : List BufferSlot) → length (filter (λ s. s.waits) slots) ≡ length (queue_in slots)
length-closed [] = refl
length-closed (s ∷ slots) =
    let rest : length (filter (λ s. s.waits) slots) ≡ length (queue_in slots) = length-closed slots in
    elim (cases_Bool s.waits) [ inl w ↦ rw w (omega arith) | inr w ↦ rw w rest ]

-- a list of slots that is lent keeps its length
pub refilled : (slots next : List BufferSlot) → length next ≡ length slots → refill (length slots) slots next ≡ next
refilled slots next e = take-append-le (length slots) next (drop (length next) slots) (omega arith) ∙ take_all (length slots) next (omega arith)

pub waiting-append : (slots more : List BufferSlot) → queue_in (slots ++ more) ≡ queue_in slots ++ queue_in more
waiting-append [] more = refl
waiting-append (s ∷ slots) more =
    elim (cases_Bool s.waits) [
      | inl w ↦ rw w (ap (λ (ws : List Waiting). wait_of s ∷ ws) (waiting-append slots more))
      | inr w ↦ rw w (waiting-append slots more)
    ]

-- no more are left than there were
pub without-fewer : (x : ℕ) (queue : List Waiting) → length (without x queue) ≤ length queue
without-fewer x [] = omega arith
without-fewer x (w ∷ queue) =
    let fewer : length (without x queue) ≤ length queue = without-fewer x queue in
    elim (cases_Bool (w.update.who == x)) [ inl t ↦ rw t (omega arith) | inr n ↦ rw n (omega arith) ]
