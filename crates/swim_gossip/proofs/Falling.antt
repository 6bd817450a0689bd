-- Where counts never rise, each bucket is a run of the slots.
use Rattle.std.proofs.Common.{◌≡◌, ◌≢◌, ℕ, ◌+◌, ◌-◌, ◌<◌, ◌≤◌, ◌==◌, ◌&&◌, nat_lt, Bool, true, false, cond, refl, sym, ◌∙◌, ap, inl, inr, List, [], ◌∷◌, ◌++◌, length, take, drop, zero, suc, arith}
use Rattle.std.proofs.lemmas.Bool.{cases_Bool, cases_lt, false≢true, eq-eqb, ne_eqb, ltb-true, lt-ltb, and_parts, or_cases, or_left}
use Rattle.std.proofs.lemmas.List.{append-nil, append_assoc, drop_more, take_all, take-append-le}
use Rattle.swim_wire.specs.Filler.{filler}
use Rattle.swim_gossip.specs.declared.buffer.Waiting.{Waiting}
use Rattle.swim_gossip.specs.declared.slots.BufferSlot.{BufferSlot}
use Rattle.swim_gossip.specs.Queue.{without, AreWithin, NeverRise}
use Rattle.swim_gossip.specs.Buckets.{at, lives, spots, runs, raised_at, bump, queue_in}
use Rattle.swim_gossip.proofs.Rises.{rank, stands, rise-take, rise-parts, stands-parts}
use Rattle.swim_gossip.proofs.Runs.{live-below, rise-runs, runs-full, stands-runs, within-at}
use Rattle.swim_gossip.proofs.Raised.{at-raised, length-raised, within-push, within-without}

-- Counts by place

pub falling-at : (slots : List BufferSlot) (i j : ℕ) → NeverRise (queue_in slots) → i ≤ j → (at slots i).waits ≡ true → (at slots j).waits ≡ true → (at slots j).count ≤ (at slots i).count
falling-at [] i j h l m n = absurd (false≢true m)
falling-at (s ∷ slots) zero zero h l m n = omega arith
falling-at (s ∷ slots) zero (suc j) h l m n = let parts : AreWithin s.count (queue_in slots) × NeverRise (queue_in slots) = rw m at h in within-at s.count slots j parts.0 n
falling-at (s ∷ slots) (suc i) zero h l m n = absurd (omega arith)
falling-at (s ∷ slots) (suc i) (suc j) h l m n =
    elim (cases_Bool s.waits) [
      | inl w ↦ let parts : AreWithin s.count (queue_in slots) × NeverRise (queue_in slots) = rw w at h in falling-at slots i j parts.1 (omega arith) m n
      | inr w ↦ let rest : NeverRise (queue_in slots) = rw w at h in falling-at slots i j rest (omega arith) m n
    ]

within-from : (most : ℕ) (slots : List BufferSlot) → ((k : ℕ) → (at slots k).waits ≡ true → (at slots k).count ≤ most) → AreWithin most (queue_in slots)
within-from most [] h = tt
within-from most (s ∷ slots) h =
    let rest : AreWithin most (queue_in slots) = within-from most slots (λ k l. h (suc k) l) in
    elim (cases_Bool s.waits) [ inl w ↦ rw w (h 0 w, rest) | inr w ↦ rw w rest ]

falling-from : (slots : List BufferSlot) → ((i j : ℕ) → i ≤ j → (at slots i).waits ≡ true → (at slots j).waits ≡ true → (at slots j).count ≤ (at slots i).count) → NeverRise (queue_in slots)
falling-from [] h = tt
falling-from (s ∷ slots) h =
    let rest : NeverRise (queue_in slots) = falling-from slots (λ i j l m n. h (suc i) (suc j) (omega arith) m n) in
    elim (cases_Bool s.waits) [ inl w ↦ rw w (within-from s.count slots (λ k l. h 0 (suc k) (omega arith) w l), rest) | inr w ↦ rw w rest ]

-- Runs

spots-none : (c i : ℕ) (slots : List BufferSlot) → ((k : ℕ) → (at slots k).waits ≡ true → (at slots k).count ≢ c) → spots c i slots ≡ []
spots-none c i [] h = refl
spots-none c i (s ∷ slots) h =
    let rest : spots c (suc i) slots ≡ [] = spots-none c (suc i) slots (λ k l. h (suc k) l) in
    elim (cases_Bool s.waits) [ inl w ↦ rw (w, ne_eqb s.count c (h 0 w)) rest | inr w ↦ rw w rest ]

abbrev none : BufferSlot
none = record { update = filler; count = 0; waits = false }

spots-more : (c i : ℕ) (slots : List BufferSlot) → i < length slots → spots c i (drop i slots) ≡ cond ((at slots i).waits && ((at slots i).count == c)) (i ∷ spots c (suc i) (drop (suc i) slots)) (spots c (suc i) (drop (suc i) slots))
spots-more c i slots l =
    let next : i + 1 ≡ suc i = omega arith in
    ap (spots c i) (drop_more slots i none l) ∙ ap (λ (k : ℕ). spots c i (at slots i ∷ drop k slots)) next

-- none of these n is in the bucket
spots-skip : (c i n : ℕ) (slots : List BufferSlot) → i + n ≤ length slots → ((k : ℕ) → i ≤ k → k < i + n → (at slots k).waits ≡ true → (at slots k).count ≢ c) → spots c i (drop i slots) ≡ spots c (i + n) (drop (i + n) slots)
spots-skip c i zero slots l h = ap (λ (k : ℕ). spots c k (drop k slots)) (let e : i ≡ i + 0 = omega arith in e)
spots-skip c i (suc n) slots l h =
    let next : suc i + n ≡ i + suc n = omega arith in
    let rest : spots c (suc i) (drop (suc i) slots) ≡ spots c (i + suc n) (drop (i + suc n) slots) =
    spots-skip c (suc i) n slots (omega arith) (λ k o p. h k (omega arith) (omega arith)) ∙ ap (λ (k : ℕ). spots c k (drop k slots)) next in
    spots-more c i slots (omega arith) ∙ elim (cases_Bool (at slots i).waits) [
      | inl w ↦ rw (w, ne_eqb (at slots i).count c (h i (omega arith) (omega arith) w)) rest
      | inr w ↦ rw w rest
    ]

drop-all : (slots : List BufferSlot) → drop (length slots) slots ≡ []
drop-all [] = refl
drop-all (s ∷ slots) = drop-all slots

-- all of these n that are no gaps are in the bucket, and none behind them is
spots-lives : (c i n : ℕ) (slots : List BufferSlot) → i + n ≤ length slots → ((k : ℕ) → i ≤ k → k < i + n → (at slots k).waits ≡ true → (at slots k).count ≡ c) → ((k : ℕ) → i + n ≤ k → (at slots k).waits ≡ true → (at slots k).count ≢ c) → spots c i (drop i slots) ≡ lives slots i n
spots-lives c i zero slots l h o =
    let all : i + (length slots - i) ≡ length slots = omega arith in
    spots-skip c i (length slots - i) slots (omega arith) (λ k p q. o k (omega arith))
    ∙ ap (λ (k : ℕ). spots c k (drop k slots)) all ∙ ap (spots c (length slots)) (drop-all slots)
spots-lives c i (suc n) slots l h o =
    let rest : spots c (suc i) (drop (suc i) slots) ≡ lives slots (suc i) n =
    spots-lives c (suc i) n slots (omega arith) (λ k p q. h k (omega arith) (omega arith)) (λ k p. o k (omega arith)) in
    spots-more c i slots (omega arith) ∙ elim (cases_Bool (at slots i).waits) [
      | inl w ↦ rw (w, eq-eqb (at slots i).count c (h i (omega arith) (omega arith) w)) (ap (λ (xs : List ℕ). i ∷ xs) rest)
      | inr w ↦ rw w rest
    ]

-- the buckets from n to before m are empty
runs-same : (n m : ℕ) (slots : List BufferSlot) → n ≤ m → ((k : ℕ) → (at slots k).waits ≡ true → n ≤ (at slots k).count → m ≤ (at slots k).count) → runs m slots ≡ runs n slots
runs-same n zero slots l h = let same : zero ≡ n = omega arith in ap (λ (k : ℕ). runs k slots) same
runs-same n (suc m) slots l h =
    elim (cases_lt m n) [
      | inl o ↦ let same : suc m ≡ n = omega arith in ap (λ (k : ℕ). runs k slots) same
      | inr o ↦
          let none : spots m 0 slots ≡ [] = spots-none m 0 slots (λ k w e. let over : suc m ≤ (at slots k).count = h k w (omega arith) in absurd (omega arith)) in
          ap (λ (xs : List ℕ). runs m slots ++ xs) none ∙ append-nil (runs m slots)
          ∙ runs-same n m slots o (λ k w q. let over : suc m ≤ (at slots k).count = h k w q in omega arith)
    ]

-- Places that are taken

-- the places so far, and then those up to the end, are all of them
pub record IsLeft (slots : List BufferSlot) (place end room : ℕ) (places all : List ℕ) : Type 0 where
  pub is : take room (places ++ lives slots place (end - place)) ≡ take room all

pub left-more : (slots : List BufferSlot) (place end room : ℕ) (places all : List ℕ) → place < end → (at slots place).waits ≡ true → IsLeft slots place end room places all → IsLeft slots (place + 1) end room (places ++ place ∷ []) all
left-more slots place end room places all l w h =
    let count : end - place ≡ suc (end - (place + 1)) = omega arith in
    let next : suc place ≡ place + 1 = omega arith in
    let here : lives slots place (end - place) ≡ place ∷ lives slots (place + 1) (end - (place + 1)) =
    ap (lives slots place) count ∙ rw w (ap (λ (k : ℕ). place ∷ lives slots k (end - (place + 1))) next) in
    record { is = ap (take room) (append_assoc places (place ∷ []) (lives slots (place + 1) (end - (place + 1))) ∙ ap (λ (xs : List ℕ). places ++ xs) (sym here)) ∙ h.is }

pub left-gap : (slots : List BufferSlot) (place end room : ℕ) (places all : List ℕ) → place < end → (at slots place).waits ≡ false → IsLeft slots place end room places all → IsLeft slots (place + 1) end room places all
left-gap slots place end room places all l w h =
    let count : end - place ≡ suc (end - (place + 1)) = omega arith in
    let next : suc place ≡ place + 1 = omega arith in
    let here : lives slots place (end - place) ≡ lives slots (place + 1) (end - (place + 1)) =
    ap (lives slots place) count ∙ rw w (ap (λ (k : ℕ). lives slots k (end - (place + 1))) next) in
    record { is = ap (λ (xs : List ℕ). take room (places ++ xs)) (sym here) ∙ h.is }

pub left-none : (slots : List BufferSlot) (place end room : ℕ) (places all : List ℕ) → end ≤ place → length places ≤ room → IsLeft slots place end room places all → places ≡ take room all
left-none slots place end room places all l m h =
    let none : end - place ≡ 0 = omega arith in
    sym (take_all room places m) ∙ ap (take room) (sym (append-nil places)) ∙ ap (λ (k : ℕ). take room (places ++ lives slots place k)) (sym none) ∙ h.is

pub left-full : (slots : List BufferSlot) (place end room : ℕ) (places all : List ℕ) → length places ≡ room → IsLeft slots place end room places all → places ≡ take room all
left-full slots place end room places all e h =
    sym (take_all room places (omega arith)) ∙ sym (take-append-le room places (lives slots place (end - place)) (omega arith)) ∙ h.is

lives-some : (slots : List BufferSlot) (i n x : ℕ) → i ≤ x → x < i + n → (at slots x).waits ≡ true → 0 < length (lives slots i n)
lives-some slots i zero x l m w = absurd (omega arith)
lives-some slots i (suc n) x l m w =
    elim (cases_Bool (at slots i).waits) [
      | inl v ↦ rw v (omega arith)
      | inr v ↦ elim (cases_lt i x) [
        | inl o ↦ rw v (lives-some slots (suc i) n x (omega arith) (omega arith) w)
        | inr o ↦ let same : i ≡ x = omega arith in absurd (false≢true (sym v ∙ ap (λ (k : ℕ). (at slots k).waits) same ∙ w))
      ]
    ]

taken-longer : (room : ℕ) (xs ys : List ℕ) → length xs < room → 0 < length ys → length xs < length (take room (xs ++ ys))
taken-longer zero xs ys l m = absurd (omega arith)
taken-longer (suc room) [] [] l m = absurd (omega arith)
taken-longer (suc room) [] (y ∷ ys) l m = omega arith
taken-longer (suc room) (x ∷ xs) ys l m = let rest : length xs < length (take room (xs ++ ys)) = taken-longer room xs ys (omega arith) m in omega arith

-- a bucket has one place at least
pub bucket-some : (slots : List BufferSlot) (begin end room : ℕ) (places : List ℕ) → begin < end → (at slots (end - 1)).waits ≡ true → length places < room → length places < length (take room (places ++ lives slots begin (end - begin)))
bucket-some slots begin end room places l w m = taken-longer room places (lives slots begin (end - begin)) m (lives-some slots begin (end - begin) (end - 1) (omega arith) (omega arith) w)

-- Buckets that are taken

-- the places from end on, those of the buckets below count, are taken as long as there is room
pub record AreTaken (slots : List BufferSlot) (end limit room : ℕ) (places : List ℕ) : Type 0 where
  pub count : ℕ
  pub low : count ≤ limit
  pub before : (k : ℕ) → k < end → (at slots k).waits ≡ true → count ≤ (at slots k).count
  pub after : (k : ℕ) → end ≤ k → (at slots k).waits ≡ true → (at slots k).count < count
  pub is : places ≡ take room (runs count slots)

-- at first, where there are only gaps behind the end
pub taken-none : (slots : List BufferSlot) (end limit room : ℕ) → ((k : ℕ) → end ≤ k → (at slots k).waits ≡ false) → AreTaken slots end limit room []
taken-none slots end limit room h = record {
  count = 0;
  low = omega arith;
  before = λ k l w. omega arith;
  after = λ k l w. absurd (false≢true (sym (h k l) ∙ w));
  is = empty room;
}
  where
    empty : (n : ℕ) → [] ≡ take n (runs 0 slots)
    empty zero = refl
    empty (suc n) = refl

-- what is taken again is what was taken
pub take-again : (room : ℕ) (xs ys : List ℕ) → take room (take room xs ++ ys) ≡ take room (xs ++ ys)
take-again zero xs ys = refl
take-again (suc room) [] ys = refl
take-again (suc room) (x ∷ xs) ys = ap (λ (zs : List ℕ). x ∷ zs) (take-again room xs ys)

-- a bucket, from begin to before end
pub record IsBucket (slots : List BufferSlot) (begin end : ℕ) : Type 0 where
  pub some : begin < end
  pub within : end ≤ length slots
  pub last : (at slots (end - 1)).waits ≡ true
  pub same : (k : ℕ) → begin ≤ k → k < end → (at slots k).waits ≡ true → (at slots k).count ≡ (at slots (end - 1)).count
  pub live : 0 < begin → (at slots (begin - 1)).waits ≡ true
  pub other : 0 < begin → (at slots (begin - 1)).count ≢ (at slots (end - 1)).count

-- one more bucket
pub taken-more : (slots : List BufferSlot) (begin end limit room : ℕ) (places : List ℕ) → NeverRise (queue_in slots) → IsBucket slots begin end → (at slots (end - 1)).count < limit
    → AreTaken slots end limit room places → AreTaken slots begin limit room (take room (places ++ lives slots begin (end - begin)))
taken-more slots begin end limit room places h b under taken =
    let c : ℕ = (at slots (end - 1)).count in
    let some : begin < end = b.some in
    let within : end ≤ length slots = b.within in
    let high : taken.count ≤ (at slots (end - 1)).count = taken.before (end - 1) (omega arith) b.last in
    let over : (k : ℕ) → k < begin → (at slots k).waits ≡ true → (at slots (end - 1)).count < (at slots k).count =
    λ k o w.
    let near : (at slots (end - 1)).count ≤ (at slots (begin - 1)).count = falling-at slots (begin - 1) (end - 1) h (omega arith) (b.live (omega arith)) b.last in
    let far : (at slots (begin - 1)).count ≤ (at slots k).count = falling-at slots k (begin - 1) h (omega arith) w (b.live (omega arith)) in
    let other : (at slots (begin - 1)).count ≢ (at slots (end - 1)).count = b.other (omega arith) in
    omega arith in
    let lower : (k : ℕ) → end ≤ k → (at slots k).waits ≡ true → (at slots k).count < (at slots (end - 1)).count =
    λ k o w. let e : (at slots k).count < taken.count = taken.after k o w in omega arith in
    let skipped : runs c slots ≡ runs taken.count slots =
    runs-same taken.count c slots high (λ k w p. elim (cases_lt k end) [
      | inl q ↦ falling-at slots k (end - 1) h (omega arith) w b.last
      | inr q ↦ let e : (at slots k).count < taken.count = taken.after k q w in absurd (omega arith)
    ]) in
    let from : 0 + begin ≡ begin = omega arith in
    let run : spots c 0 slots ≡ lives slots begin (end - begin) =
    spots-skip c 0 begin slots (omega arith) (λ k o p w e. let e2 : (at slots (end - 1)).count < (at slots k).count = over k (omega arith) w in absurd (omega arith))
    ∙ ap (λ (k : ℕ). spots c k (drop k slots)) from
    ∙ spots-lives c begin (end - begin) slots (omega arith) (λ k o p w. b.same k o (omega arith) w) (λ k o w e. let e2 : (at slots k).count < (at slots (end - 1)).count = lower k (omega arith) w in absurd (omega arith)) in
    record {
      count = suc c;
      low = omega arith;
      before = λ k o w. over k o w;
      after = λ k o w. elim (cases_lt k end) [
        | inl q ↦ let e : (at slots k).count ≡ (at slots (end - 1)).count = b.same k o q w in omega arith
        | inr q ↦ let e : (at slots k).count < (at slots (end - 1)).count = lower k q w in omega arith
      ];
      is = ap (λ (xs : List ℕ). take room (xs ++ lives slots begin (end - begin))) (taken.is ∙ ap (take room) (sym skipped))
          ∙ take-again room (runs c slots) (lives slots begin (end - begin))
          ∙ ap (λ (xs : List ℕ). take room (runs c slots ++ xs)) (sym run);
    }

-- the buckets that are left are at or above the limit
pub taken-all : (slots : List BufferSlot) (end limit room : ℕ) (places : List ℕ) → ((k : ℕ) → k < end → (at slots k).waits ≡ true → limit ≤ (at slots k).count) → AreTaken slots end limit room places → places ≡ take room (runs limit slots)
taken-all slots end limit room places h taken =
    taken.is ∙ ap (take room) (sym (runs-same taken.count limit slots taken.low (λ k w m. elim (cases_lt k end) [
      | inl o ↦ h k o w
      | inr o ↦ let e : (at slots k).count < taken.count = taken.after k o w in absurd (omega arith)
    ])))

-- the last one is at or above the limit
pub taken-high : (slots : List BufferSlot) (end limit room : ℕ) (places : List ℕ) → NeverRise (queue_in slots) → 0 < end → (at slots (end - 1)).waits ≡ true → limit ≤ (at slots (end - 1)).count → AreTaken slots end limit room places → places ≡ take room (runs limit slots)
taken-high slots end limit room places h l w n taken =
    taken-all slots end limit room places (λ k o v. let e : (at slots (end - 1)).count ≤ (at slots k).count = falling-at slots k (end - 1) h (omega arith) v w in omega arith) taken

-- there is no more room
pub taken-full : (slots : List BufferSlot) (end limit room : ℕ) (places : List ℕ) → room ≤ length places → AreTaken slots end limit room places → places ≡ take room (runs limit slots)
taken-full slots end limit room places l taken =
    let same : length places ≡ length (take room (runs taken.count slots)) = ap length taken.is in
    taken.is ∙ runs-full taken.count limit room slots taken.low (omega arith)

-- What keeps the order

pub falling-without : (x : ℕ) (queue : List Waiting) → NeverRise queue → NeverRise (without x queue)
falling-without x [] h = tt
falling-without x (w ∷ queue) h =
    elim (cases_Bool (w.update.who == x)) [
      | inl t ↦ rw t (falling-without x queue h.1)
      | inr n ↦ rw n (within-without w.count x queue h.0, falling-without x queue h.1)
    ]

pub falling-push : (queue : List Waiting) (w : Waiting) → NeverRise queue → w.count ≡ 0 → NeverRise (queue ++ w ∷ [])
falling-push [] w h e = (tt, tt)
falling-push (v ∷ queue) w h e = (within-push v.count queue w h.0 (omega arith), falling-push queue w h.1 e)

-- of two that were sent equally often the earlier one is picked if the later one is
earlier-stands : (limit room i j : ℕ) (slots : List BufferSlot) → length slots ≤ 368 → i ≤ j → (at slots i).waits ≡ true → (at slots i).count ≡ (at slots j).count → stands j (take room (runs limit slots)) ≡ true → stands i (take room (runs limit slots)) ≡ true
earlier-stands limit room i j slots few l w e s =
    let later : ((at slots j).waits ≡ true) × (nat_lt (at slots j).count limit ≡ true) =
    and_parts (at slots j).waits (nat_lt (at slots j).count limit) (sym (stands-runs limit j slots) ∙ stands-parts room (runs limit slots) j ∙ or_left (stands j (take room (runs limit slots))) (stands j (drop room (runs limit slots))) s) in
    let under : (at slots j).count < limit = ltb-true (at slots j).count limit later.1 in
    let earlier : stands i (runs limit slots) ≡ true =
    stands-runs limit i slots ∙ rw (w, lt-ltb (at slots i).count limit (omega arith)) refl in
    elim (or_cases (stands i (take room (runs limit slots))) (stands i (drop room (runs limit slots))) (sym (stands-parts room (runs limit slots) i) ∙ earlier)) [
      | inl t ↦ t
      | inr t ↦
          let above : rank slots j < rank slots i = rise-parts (rank slots) 0 room (runs limit slots) j i (rise-runs limit slots few) s t in
          absurd (omega arith)
    ]

pub falling-raised : (limit room : ℕ) (slots : List BufferSlot) → length slots ≤ 368 → NeverRise (queue_in slots) → NeverRise (queue_in (raised_at (take room (runs limit slots)) slots))
falling-raised limit room slots few h = falling-from (raised_at (take room (runs limit slots)) slots) one
  where
    raised-is : (y : ℕ) → y < length slots → at (raised_at (take room (runs limit slots)) slots) y ≡ cond (stands y (take room (runs limit slots))) (bump (at slots y)) (at slots y)
    raised-is y l = at-raised (rank slots) 0 (take room (runs limit slots)) slots y (rise-take (rank slots) 0 room (runs limit slots) (rise-runs limit slots few)) l

    low : (y : ℕ) → (at (raised_at (take room (runs limit slots)) slots) y).waits ≡ true → y < length slots
    low y w =
        let l : y < length (raised_at (take room (runs limit slots)) slots) = live-below (raised_at (take room (runs limit slots)) slots) y w in
        let same : length (raised_at (take room (runs limit slots)) slots) ≡ length slots = length-raised (take room (runs limit slots)) slots in
        omega arith

    still : (b : Bool) (s : BufferSlot) → (cond b (bump s) s).waits ≡ s.waits
    still true s = refl
    still false s = refl

    live : (y : ℕ) → (at (raised_at (take room (runs limit slots)) slots) y).waits ≡ true → (at slots y).waits ≡ true
    live y w = sym (ap (λ (s : BufferSlot). s.waits) (raised-is y (low y w)) ∙ still (stands y (take room (runs limit slots))) (at slots y)) ∙ w

    both : (i j : ℕ) → i ≤ j → (at slots i).waits ≡ true → (at slots j).waits ≡ true → (a b : Bool) → stands i (take room (runs limit slots)) ≡ a → stands j (take room (runs limit slots)) ≡ b → (cond b (bump (at slots j)) (at slots j)).count ≤ (cond a (bump (at slots i)) (at slots i)).count
    both i j l v w true true p q = let e : (at slots j).count ≤ (at slots i).count = falling-at slots i j h l v w in omega arith
    both i j l v w true false p q = let e : (at slots j).count ≤ (at slots i).count = falling-at slots i j h l v w in omega arith
    both i j l v w false false p q = falling-at slots i j h l v w
    both i j l v w false true p q =
        let e : (at slots j).count ≤ (at slots i).count = falling-at slots i j h l v w in
        elim (cases_lt (at slots j).count (at slots i).count) [
          | inl n ↦ omega arith
          | inr n ↦
              let same : (at slots i).count ≡ (at slots j).count = omega arith in
              absurd (false≢true (sym p ∙ earlier-stands limit room i j slots few l v same q))
        ]

    one : (i j : ℕ) → i ≤ j → (at (raised_at (take room (runs limit slots)) slots) i).waits ≡ true → (at (raised_at (take room (runs limit slots)) slots) j).waits ≡ true → (at (raised_at (take room (runs limit slots)) slots) j).count ≤ (at (raised_at (take room (runs limit slots)) slots) i).count
    one i j l v w =
        rw (raised-is j (low j w), raised-is i (low i v)) (both i j l (live i v) (live j w) (stands i (take room (runs limit slots))) (stands j (take room (runs limit slots))) refl refl)
