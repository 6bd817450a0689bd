-- The places in the buckets are those of the updates in turn.
use Rattle.std.proofs.Common.{◌≡◌, ◌≢◌, ℕ, ◌+◌, ◌*◌, ◌<◌, ◌≤◌, ◌==◌, ◌||◌, ◌&&◌, nat_lt, Bool, true, false, refl, sym, ◌∙◌, ap, inl, inr, List, [], ◌∷◌, ◌++◌, length, map, take, drop, zero, suc, arith}
use Rattle.std.proofs.lemmas.Bool.{cases_Bool, cases_lt, false≢true, eqb-true, eqb-false, eq-eqb, ne_eqb, ltb-true, ltb-false, lt-ltb, le-ltb, or_left, and_parts, and_right}
use Rattle.std.proofs.lemmas.List.{append-nil, append_assoc, map-append, take-append-le, take-map}
use Rattle.std.proofs.lemmas.List.Folds.{list_any-append}
use Rattle.swim_wire.specs.declared.update.Update.{Update}
use Rattle.swim_gossip.specs.declared.buffer.Waiting.{Waiting}
use Rattle.swim_gossip.specs.declared.slots.BufferSlot.{BufferSlot}
use Rattle.swim_gossip.specs.Queue.{sent_times, in_turn, update_of, picked_updates, AreWithin}
use Rattle.swim_gossip.specs.Buckets.{at, spots, runs, wait_of, queue_in}
use Rattle.swim_gossip.proofs.Rises.{rank, stands, RiseFrom, rise-weaker, rise-append, stands-parts}

-- what waits there
spots-at_from : (g : ℕ → BufferSlot) (c i : ℕ) (slots : List BufferSlot) → ((k : ℕ) → k < length slots → g (i + k) ≡ at slots k) → map (λ x. wait_of (g x)) (spots c i slots) ≡ sent_times c (queue_in slots)
spots-at_from g c i [] h = refl
spots-at_from g c i (s ∷ slots) h =
    let first : g i ≡ s = ap g (let e : i ≡ i + 0 = omega arith in e) ∙ h 0 (omega arith) in
    let rest : map (λ x. wait_of (g x)) (spots c (suc i) slots) ≡ sent_times c (queue_in slots) =
    spots-at_from g c (suc i) slots (λ k l. ap g (let e : suc i + k ≡ i + suc k = omega arith in e) ∙ h (suc k) (omega arith)) in
    elim (cases_Bool s.waits) [
      | inl w ↦ elim (cases_Bool (s.count == c)) [
        | inl t ↦ rw (w, t) (ap (λ (v : BufferSlot). wait_of v ∷ map (λ x. wait_of (g x)) (spots c (suc i) slots)) first ∙ ap (λ (ws : List Waiting). wait_of s ∷ ws) rest)
        | inr n ↦ rw (w, n) rest
      ]
      | inr w ↦ rw w rest
    ]

spots-at : (c : ℕ) (slots : List BufferSlot) → map (λ x. wait_of (at slots x)) (spots c 0 slots) ≡ sent_times c (queue_in slots)
spots-at c slots = spots-at_from (at slots) c 0 slots (λ k l. ap (at slots) (let e : 0 + k ≡ k = omega arith in e))

runs-at : (n : ℕ) (slots : List BufferSlot) → map (λ x. wait_of (at slots x)) (runs n slots) ≡ in_turn n (queue_in slots)
runs-at zero slots = refl
runs-at (suc n) slots = map-append (λ x. wait_of (at slots x)) (runs n slots) (spots n 0 slots) ∙ rw (runs-at n slots, spots-at n slots) refl

spots-before : (c i x : ℕ) (slots : List BufferSlot) → x < i → stands x (spots c i slots) ≡ false
spots-before c i x [] l = refl
spots-before c i x (s ∷ slots) l =
    let rest : stands x (spots c (suc i) slots) ≡ false = spots-before c (suc i) x slots (omega arith) in
    elim (cases_Bool (s.waits && (s.count == c))) [
      | inl t ↦ rw (t, ne_eqb i x (λ e. omega arith)) rest
      | inr n ↦ rw n rest
    ]

stands-spots_from : (c i k : ℕ) (slots : List BufferSlot) → stands (i + k) (spots c i slots) ≡ ((at slots k).waits && ((at slots k).count == c))
stands-spots_from c i k [] = refl
stands-spots_from c i zero (s ∷ slots) =
    let none : stands (i + 0) (spots c (suc i) slots) ≡ false = spots-before c (suc i) (i + 0) slots (omega arith) in
    elim (cases_Bool (s.waits && (s.count == c))) [
      | inl t ↦ rw (t, eq-eqb i (i + 0) (omega arith)) refl
      | inr n ↦ rw (n, none) refl
    ]
stands-spots_from c i (suc k) (s ∷ slots) =
    let same : i + suc k ≡ suc i + k = omega arith in
    let rest : stands (i + suc k) (spots c (suc i) slots) ≡ ((at slots k).waits && ((at slots k).count == c)) =
    ap (λ (x : ℕ). stands x (spots c (suc i) slots)) same ∙ stands-spots_from c (suc i) k slots in
    elim (cases_Bool (s.waits && (s.count == c))) [
      | inl t ↦ rw (t, ne_eqb i (i + suc k) (λ e. omega arith)) rest
      | inr n ↦ rw n rest
    ]

stands-spots : (c x : ℕ) (slots : List BufferSlot) → stands x (spots c 0 slots) ≡ ((at slots x).waits && ((at slots x).count == c))
stands-spots c x slots = ap (λ (y : ℕ). stands y (spots c 0 slots)) (let e : x ≡ 0 + x = omega arith in e) ∙ stands-spots_from c 0 x slots

pub stands-runs : (n x : ℕ) (slots : List BufferSlot) → stands x (runs n slots) ≡ ((at slots x).waits && nat_lt (at slots x).count n)
stands-runs zero x slots = sym (and_right (at slots x).waits (nat_lt (at slots x).count 0) (le-ltb (at slots x).count 0 (omega arith)))
stands-runs (suc n) x slots =
    list_any-append (λ y. y == x) (runs n slots) (spots n 0 slots)
    ∙ rw (stands-runs n x slots, stands-spots n x slots) (join (at slots x).waits (at slots x).count)
  where
    below : (m : ℕ) → (nat_lt m n || (m == n)) ≡ nat_lt m (suc n)
    below m = elim (cases_Bool (nat_lt m n)) [
      | inl t ↦ let l : m < n = ltb-true m n t in rw (t, lt-ltb m (suc n) (omega arith)) refl
      | inr t ↦ let l : n ≤ m = ltb-false m n t in elim (cases_Bool (m == n)) [
        | inl e ↦ let same : m ≡ n = eqb-true m n e in rw (t, e, lt-ltb m (suc n) (omega arith)) refl
        | inr e ↦ rw (t, e, le-ltb m (suc n) (let no : m ≢ n = eqb-false m n e in omega arith)) refl
      ]
    ]

    join : (b : Bool) (m : ℕ) → ((b && nat_lt m n) || (b && (m == n))) ≡ (b && nat_lt m (suc n))
    join true m = below m
    join false m = refl

-- behind the slots there are but gaps
pub live-below : (slots : List BufferSlot) (x : ℕ) → (at slots x).waits ≡ true → x < length slots
live-below [] x h = absurd (false≢true h)
live-below (s ∷ slots) zero h = omega arith
live-below (s ∷ slots) (suc x) h = let l : x < length slots = live-below slots x h in omega arith

rise-spots_from : (f : ℕ → ℕ) (c i : ℕ) (slots : List BufferSlot) → ((k : ℕ) → k < length slots → (at slots k).count ≡ c → f (i + k) ≡ 512 * c + (i + k)) → RiseFrom f (512 * c + i) (spots c i slots)
rise-spots_from f c i [] h = tt
rise-spots_from f c i (s ∷ slots) h =
    let rest : RiseFrom f (512 * c + suc i) (spots c (suc i) slots) =
    rise-spots_from f c (suc i) slots (λ k l e. let same : suc i + k ≡ i + suc k = omega arith in ap f same ∙ h (suc k) (omega arith) e ∙ ap (λ (x : ℕ). 512 * c + x) (sym same)) in
    elim (cases_Bool (s.waits && (s.count == c))) [
      | inl t ↦
          let here : f (i + 0) ≡ 512 * c + (i + 0) = h 0 (omega arith) (eqb-true s.count c (and_parts s.waits (s.count == c) t).1) in
          let same : f i ≡ f (i + 0) = ap f (let e : i ≡ i + 0 = omega arith in e) in
          rw t (omega arith, rise-weaker f (512 * c + suc i) (suc (f i)) (spots c (suc i) slots) (omega arith) rest)
      | inr n ↦ rw n (rise-weaker f (512 * c + suc i) (512 * c + i) (spots c (suc i) slots) (omega arith) rest)
    ]

rise-spots : (c : ℕ) (slots : List BufferSlot) → RiseFrom (rank slots) (512 * c) (spots c 0 slots)
rise-spots c slots =
    rise-weaker (rank slots) (512 * c + 0) (512 * c) (spots c 0 slots) (omega arith)
    (rise-spots_from (rank slots) c 0 slots (λ k l e. let same : 0 + k ≡ k = omega arith in ap (rank slots) same ∙ ap (λ (m : ℕ). 512 * m + k) e ∙ ap (λ (x : ℕ). 512 * c + x) (sym same)))

pub rise-runs : (n : ℕ) (slots : List BufferSlot) → length slots ≤ 368 → RiseFrom (rank slots) 0 (runs n slots)
rise-runs zero slots l = tt
rise-runs (suc n) slots l =
    rise-append (rank slots) 0 (512 * n) (runs n slots) (spots n 0 slots) (omega arith)
    (λ z s. let both : ((at slots z).waits && nat_lt (at slots z).count n) ≡ true = sym (stands-runs n z slots) ∙ s in
    let parts : ((at slots z).waits ≡ true) × (nat_lt (at slots z).count n ≡ true) = and_parts (at slots z).waits (nat_lt (at slots z).count n) both in
    let low : z < length slots = live-below slots z parts.0 in
    let few : (at slots z).count < n = ltb-true (at slots z).count n parts.1 in
    omega arith)
    (rise-runs n slots l) (rise-spots n slots)

-- what the higher buckets add
record Higher (limit n : ℕ) (slots : List BufferSlot) : Type 0 where
  rest : List ℕ
  is : runs n slots ≡ runs limit slots ++ rest

higher : (limit n : ℕ) (slots : List BufferSlot) → limit ≤ n → Higher limit n slots
higher limit zero slots l =
    let none : zero ≡ limit = omega arith in
    record { rest = []; is = ap (λ (m : ℕ). runs m slots) none ∙ sym (append-nil (runs limit slots)) }
higher limit (suc n) slots l =
    elim (cases_lt n limit) [
      | inl o ↦
          let same : suc n ≡ limit = omega arith in
          record { rest = []; is = ap (λ (m : ℕ). runs m slots) same ∙ sym (append-nil (runs limit slots)) }
      | inr o ↦
          let under : Higher limit n slots = higher limit n slots o in
          record {
            rest = under.rest ++ spots n 0 slots;
            is = ap (λ (xs : List ℕ). xs ++ spots n 0 slots) under.is ∙ append_assoc (runs limit slots) under.rest (spots n 0 slots);
          }
    ]

pub picked-runs : (limit room : ℕ) (slots : List BufferSlot) → map (λ x. (at slots x).update) (take room (runs limit slots)) ≡ picked_updates limit room (queue_in slots)
picked-runs limit room slots =
    sym (take-map (λ x. (at slots x).update) room (runs limit slots))
    ∙ ap (take room) (both (runs limit slots) ∙ ap (map update_of) (runs-at limit slots))
  where
    both : (xs : List ℕ) → map (λ x. (at slots x).update) xs ≡ map update_of (map (λ x. wait_of (at slots x)) xs)
    both [] = refl
    both (x ∷ xs) = ap (λ (us : List Update). (at slots x).update ∷ us) (both xs)

-- once there is no more room, the higher buckets add nothing
pub runs-full : (n limit room : ℕ) (slots : List BufferSlot) → n ≤ limit → room ≤ length (take room (runs n slots)) → take room (runs n slots) ≡ take room (runs limit slots)
runs-full n limit room slots l m =
    let more : Higher n limit slots = higher n limit slots l in
    let short : length (take room (runs n slots)) ≤ length (runs n slots) = length-take-short room (runs n slots) in
    sym (ap (take room) more.is ∙ take-append-le room (runs n slots) more.rest (omega arith))
  where
    length-take-short : (k : ℕ) (xs : List ℕ) → length (take k xs) ≤ length xs
    length-take-short zero xs = omega arith
    length-take-short (suc k) [] = omega arith
    length-take-short (suc k) (x ∷ xs) = let e : length (take k xs) ≤ length xs = length-take-short k xs in omega arith

-- an update waits at each of the places
pub live-runs : (limit room x : ℕ) (slots : List BufferSlot) → stands x (take room (runs limit slots)) ≡ true → (at slots x).waits ≡ true
live-runs limit room x slots s =
    (and_parts (at slots x).waits (nat_lt (at slots x).count limit)
    (sym (stands-runs limit x slots) ∙ stands-parts room (runs limit slots) x ∙ or_left (stands x (take room (runs limit slots))) (stands x (drop room (runs limit slots))) s)).0

pub within-at : (most : ℕ) (slots : List BufferSlot) (x : ℕ) → AreWithin most (queue_in slots) → (at slots x).waits ≡ true → (at slots x).count ≤ most
within-at most [] x h l = absurd (false≢true l)
within-at most (s ∷ slots) zero h l = let parts : (s.count ≤ most) × AreWithin most (queue_in slots) = rw l at h in parts.0
within-at most (s ∷ slots) (suc x) h l =
    elim (cases_Bool s.waits) [
      | inl w ↦ let parts : (s.count ≤ most) × AreWithin most (queue_in slots) = rw w at h in within-at most slots x parts.1 l
      | inr w ↦ let rest : AreWithin most (queue_in slots) = rw w at h in within-at most slots x rest l
    ]
