-- To raise what stands at places is to raise the updates that stand there.
use Rattle.std.proofs.Common.{◌≡◌, ℕ, ◌+◌, ◌<◌, ◌≤◌, ◌==◌, nat_lt, Bool, true, false, cond, refl, sym, subst, ◌∙◌, ap, inl, inr, List, [], ◌∷◌, ◌++◌, length, map, take, suc, get_or, set, arith}
use Rattle.std.specs.List.{All}
use Rattle.std.proofs.lemmas.Bool.{cases_Bool, eqb-true, eqb-false, eq-eqb, ne_eqb, ltb-true, or_left, or_right, cond-false}
use Rattle.std.proofs.lemmas.List.{get_or_default, get_or-set_same, get_or-set_other, length-set}
use Rattle.std.proofs.lemmas.List.Folds.{list_any_at}
use Rattle.swim_wire.specs.Filler.{filler}
use Rattle.swim_wire.specs.declared.update.Update.{Update}
use Rattle.swim_gossip.specs.declared.buffer.Waiting.{Waiting}
use Rattle.swim_gossip.specs.declared.slots.BufferSlot.{BufferSlot}
use Rattle.swim_gossip.specs.Queue.{is_about_any, raise_all, without, AreApart, AreWithin}
use Rattle.swim_gossip.proofs.Apart.{raise, raised}
use Rattle.swim_gossip.specs.Buckets.{at, runs, wait_of, queue_in, bump, raised_at}
use Rattle.swim_gossip.proofs.Places.{place-one}
use Rattle.swim_gossip.proofs.Rises.{rank, stands, RiseFrom, rise-take, rise-once}
use Rattle.swim_gossip.proofs.Runs.{rise-runs, live-below, live-runs}

abbrev none : BufferSlot
none = record { update = filler; count = 0; waits = false }

pub at-read : (slots : List BufferSlot) (x : ℕ) (d : BufferSlot) → x < length slots → get_or slots x d ≡ at slots x
at-read slots x d l = get_or_default slots x d none l

-- one more send leaves each update as it is, and each gap
pub update-kept : (slots : List BufferSlot) (x y : ℕ) → x < length slots → (at (set slots x (bump (at slots x))) y).update ≡ (at slots y).update
update-kept slots x y l =
    let next : List BufferSlot = set slots x (bump (at slots x)) in
    elim (cases_Bool (x == y)) [
      | inl t ↦
          let e : x ≡ y = eqb-true x y t in
          ap (λ (v : ℕ). (at next v).update) (sym e)
          ∙ ap (λ (s : BufferSlot). s.update) (get_or-set_same slots x (bump (at slots x)) none l)
          ∙ ap (λ (v : ℕ). (at slots v).update) e
      | inr n ↦ ap (λ (s : BufferSlot). s.update) (get_or-set_other slots x y (bump (at slots x)) none (λ e. eqb-false x y n (sym e)))
    ]

pub waits-kept : (slots : List BufferSlot) (x y : ℕ) → x < length slots → (at (set slots x (bump (at slots x))) y).waits ≡ (at slots y).waits
waits-kept slots x y l =
    let next : List BufferSlot = set slots x (bump (at slots x)) in
    elim (cases_Bool (x == y)) [
      | inl t ↦
          let e : x ≡ y = eqb-true x y t in
          ap (λ (v : ℕ). (at next v).waits) (sym e)
          ∙ ap (λ (s : BufferSlot). s.waits) (get_or-set_same slots x (bump (at slots x)) none l)
          ∙ ap (λ (v : ℕ). (at slots v).waits) e
      | inr n ↦ ap (λ (s : BufferSlot). s.waits) (get_or-set_other slots x y (bump (at slots x)) none (λ e. eqb-false x y n (sym e)))
    ]

-- no count rises above one more
pub count-raised : (most more : ℕ) (slots : List BufferSlot) (x y : ℕ) → x < length slots → more ≡ most + 1 → (at slots x).count ≤ most → (at slots y).count ≤ most → (at (set slots x (bump (at slots x))) y).count ≤ more
count-raised most more slots x y l e h k =
    let next : List BufferSlot = set slots x (bump (at slots x)) in
    elim (cases_Bool (x == y)) [
      | inl t ↦
          let same : (at next y).count ≡ (at slots x).count + 1 =
          ap (λ (v : ℕ). (at next v).count) (sym (eqb-true x y t)) ∙ ap (λ (s : BufferSlot). s.count) (get_or-set_same slots x (bump (at slots x)) none l) in
          omega arith
      | inr n ↦
          let same : (at next y).count ≡ (at slots y).count = ap (λ (s : BufferSlot). s.count) (get_or-set_other slots x y (bump (at slots x)) none (λ e. eqb-false x y n (sym e))) in
          omega arith
    ]

pub length-raised : (xs : List ℕ) (slots : List BufferSlot) → length (raised_at xs slots) ≡ length slots
length-raised [] slots = refl
length-raised (x ∷ xs) slots = length-raised xs (set slots x (bump (at slots x))) ∙ length-set slots x (bump (at slots x))

-- each of the places is raised once
pub at-raised : (f : ℕ → ℕ) (low : ℕ) (xs : List ℕ) (slots : List BufferSlot) (y : ℕ) → RiseFrom f low xs → y < length slots → at (raised_at xs slots) y ≡ cond (stands y xs) (bump (at slots y)) (at slots y)
at-raised f low [] slots y h l = refl
at-raised f low (x ∷ xs) slots y h l =
    let next : List BufferSlot = set slots x (bump (at slots x)) in
    let same : length next ≡ length slots = length-set slots x (bump (at slots x)) in
    let rest : at (raised_at xs next) y ≡ cond (stands y xs) (bump (at next y)) (at next y) = at-raised f (suc (f x)) xs next y h.1 (omega arith) in
    elim (cases_Bool (x == y)) [
      | inl t ↦
          let e : x ≡ y = eqb-true x y t in
          let once : stands y xs ≡ false = ap (λ (v : ℕ). stands v xs) (sym e) ∙ rise-once f x xs h.1 in
          let here : at next y ≡ bump (at slots y) = ap (λ (v : ℕ). at next v) (sym e) ∙ get_or-set_same slots x (bump (at slots x)) none (subst (λ (v : ℕ). v < length slots) (sym e) l) ∙ ap (λ (v : ℕ). bump (at slots v)) e in
          rw t (rest ∙ cond-false (stands y xs) (bump (at next y)) (at next y) once ∙ here)
      | inr n ↦
          let here : at next y ≡ at slots y = get_or-set_other slots x y (bump (at slots x)) none (λ e. eqb-false x y n (sym e)) in
          rw n (rest ∙ ap (λ (v : BufferSlot). cond (stands y xs) (bump v) v) here)
    ]

same-who : (slots : List BufferSlot) (x y : ℕ) → AreApart (queue_in slots) → (at slots x).waits ≡ true → (at slots y).waits ≡ true → ((at slots x).update.who == (at slots y).update.who) ≡ (x == y)
same-who slots x y h l m =
    elim (cases_Bool (x == y)) [
      | inl t ↦ rw t (eq-eqb (at slots x).update.who (at slots y).update.who (ap (λ (v : ℕ). (at slots v).update.who) (eqb-true x y t)))
      | inr n ↦ rw n (ne_eqb (at slots x).update.who (at slots y).update.who (λ e. eqb-false x y n (place-one slots x y h l m e)))
    ]

about-places : (slots : List BufferSlot) (xs : List ℕ) (y : ℕ) → AreApart (queue_in slots) → ((x : ℕ) → stands x xs ≡ true → (at slots x).waits ≡ true) → (at slots y).waits ≡ true → is_about_any (at slots y).update.who (map (λ x. (at slots x).update) xs) ≡ stands y xs
about-places slots [] y h l m = refl
about-places slots (x ∷ xs) y h l m =
    rw (same-who slots x y h (l x (or_left (x == x) (stands x xs) (eq-eqb x x refl))) m, about-places slots xs y h (λ z s. l z (or_right (x == z) (stands z xs) s)) m) refl

pub live-all : (limit room : ℕ) (slots : List BufferSlot) → All (λ x. (at slots x).waits ≡ true) (take room (runs limit slots))
live-all limit room slots = λ k d l.
    live-runs limit room (get_or (take room (runs limit slots)) k d) slots
    (list_any_at (λ y. y == get_or (take room (runs limit slots)) k d) (take room (runs limit slots)) k d l (eq-eqb (get_or (take room (runs limit slots)) k d) (get_or (take room (runs limit slots)) k d) refl))

-- the same slots wait, and what waits there is what f makes of it
waiting-map : (f : Waiting → Waiting) (next slots : List BufferSlot) → length next ≡ length slots → ((y : ℕ) → y < length slots → (at next y).waits ≡ (at slots y).waits) → ((y : ℕ) → (at slots y).waits ≡ true → wait_of (at next y) ≡ f (wait_of (at slots y))) → queue_in next ≡ map f (queue_in slots)
waiting-map f [] [] e h k = refl
waiting-map f [] (s ∷ slots) e h k = absurd (omega arith)
waiting-map f (r ∷ next) [] e h k = absurd (omega arith)
waiting-map f (r ∷ next) (s ∷ slots) e h k =
    let rest : queue_in next ≡ map f (queue_in slots) = waiting-map f next slots (omega arith) (λ y l. h (suc y) (omega arith)) (λ y l. k (suc y) l) in
    let same : r.waits ≡ s.waits = h 0 (omega arith) in
    elim (cases_Bool s.waits) [
      | inl w ↦ rw (same, w) (ap (λ (v : Waiting). v ∷ queue_in next) (k 0 w) ∙ ap (λ (ws : List Waiting). f (wait_of s) ∷ ws) rest)
      | inr w ↦ rw (same, w) rest
    ]

-- to raise what stands at places is to raise the updates that stand there
pub raised-runs : (limit room : ℕ) (slots : List BufferSlot) → length slots ≤ 368 → AreApart (queue_in slots) → queue_in (raised_at (take room (runs limit slots)) slots) ≡ map (raise_all (map (λ x. (at slots x).update) (take room (runs limit slots)))) (queue_in slots)
raised-runs limit room slots few h = waiting-map (raise_all sent) (raised_at places slots) slots (length-raised places slots) (λ y l. ap (λ (s : BufferSlot). s.waits) (raised-is y l) ∙ gap (stands y places) (at slots y)) one
  where
    places : List ℕ
    places = take room (runs limit slots)

    sent : List Update
    sent = map (λ x. (at slots x).update) (take room (runs limit slots))

    raised-is : (y : ℕ) → y < length slots → at (raised_at (take room (runs limit slots)) slots) y ≡ cond (stands y (take room (runs limit slots))) (bump (at slots y)) (at slots y)
    raised-is y l = at-raised (rank slots) 0 (take room (runs limit slots)) slots y (rise-take (rank slots) 0 room (runs limit slots) (rise-runs limit slots few)) l

    gap : (b : Bool) (s : BufferSlot) → (cond b (bump s) s).waits ≡ s.waits
    gap true s = refl
    gap false s = refl

    both : (b : Bool) (s : BufferSlot) → is_about_any s.update.who sent ≡ b → wait_of (cond b (bump s) s) ≡ raise_all sent (wait_of s)
    both true s e = rw e refl
    both false s e = rw e refl

    one : (y : ℕ) → (at slots y).waits ≡ true → wait_of (at (raised_at (take room (runs limit slots)) slots) y) ≡ raise_all sent (wait_of (at slots y))
    one y w =
        ap wait_of (raised-is y (live-below slots y w))
        ∙ both (stands y (take room (runs limit slots))) (at slots y) (about-places slots (take room (runs limit slots)) y h (λ x s. live-runs limit room x slots s) w)

-- counts stay within the last bucket
within-weaker : (most more : ℕ) (queue : List Waiting) → most ≤ more → AreWithin most queue → AreWithin more queue
within-weaker most more [] l h = tt
within-weaker most more (w ∷ queue) l h = (let e : w.count ≤ most = h.0 in omega arith, within-weaker most more queue l h.1)

pub within-more : (most more : ℕ) (queue : List Waiting) → most ≤ more → AreWithin most queue → AreWithin more queue
within-more most more queue l h = within-weaker most more queue l h

pub within-without : (most x : ℕ) (queue : List Waiting) → AreWithin most queue → AreWithin most (without x queue)
within-without most x [] h = tt
within-without most x (w ∷ queue) h =
    elim (cases_Bool (w.update.who == x)) [
      | inl t ↦ rw t (within-without most x queue h.1)
      | inr n ↦ rw n (h.0, within-without most x queue h.1)
    ]

pub within-push : (most : ℕ) (queue : List Waiting) (w : Waiting) → AreWithin most queue → w.count ≤ most → AreWithin most (queue ++ w ∷ [])
within-push most [] w h l = (l, tt)
within-push most (v ∷ queue) w h l = (h.0, within-push most queue w h.1 l)

pub within-raise : (most limit : ℕ) (sent : List Update) (queue : List Waiting) → limit ≤ most → AreWithin most queue → AreWithin most (raised limit sent queue)
within-raise most limit sent [] l h = tt
within-raise most limit sent (w ∷ queue) l h = (one, within-raise most limit sent queue l h.1)
  where
    one : (raise limit sent w).count ≤ most
    one = elim (cases_Bool (nat_lt w.count limit)) [
      | inl t ↦ let under : w.count < limit = ltb-true w.count limit t in elim (cases_Bool (is_about_any w.update.who sent)) [
        | inl s ↦ rw (t, s) (omega arith)
        | inr s ↦ rw (t, s) h.0
      ]
      | inr t ↦ rw t h.0
    ]
