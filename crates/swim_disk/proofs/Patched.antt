-- Some bytes over what a disk holds, and what is written beside them.
use Rattle.std.proofs.Common.{◌≡◌, ◌⊎◌, inl, inr, ⊎_elim, ℕ, ◌+◌, ◌-◌, ◌<◌, ◌≤◌, min, max, List, ◌++◌, length, take, drop, get_or, replicate, refl, sym, ◌∙◌, ap, subst, arith, length-append, length-drop}
use Rattle.std.proofs.lemmas.Bool.{cases_lt}
use Rattle.std.proofs.lemmas.List.{ext_get_or, get_or-take, get_or-drop, get_or-replicate, get_or_past, get_or_append_left, get_or-append_right, length-take, length-replicate, take_all, take-replicate, drop-replicate, drop_all, length-take-le}
use Rattle.swim_disk.specs.Disk.{padded, overlaid}
use Rattle.swim_disk.specs.Machinery.Torn.{length-front}
use Rattle.swim_disk.specs.Choice.{left_by}
use Rattle.swim_disk.specs.Machinery.Patch.{Patched, written_beside}
use Rattle.swim_disk.specs.Replay.{Disk, fresh, replay, written, all_synced, fill_all}
use Rattle.swim_disk.specs.declared.mem.Choice.{Choice}
use Rattle.swim_disk.specs.declared.past.Call.{Call}
use Rattle.swim_disk.specs.declared.mem.Choice.TheVariants.{Keep, Drop, Fill}

-- ---- bytes, of which there is a zero past the end

pub length-overlaid : (c : List ℕ) (at : ℕ) (p : List ℕ) → length (overlaid c at p) ≡ max (length c) (at + length p)
length-overlaid c at p = omega (arith, length-append (take at (padded c at) ++ p) (drop (at + length p) c), length-append (take at (padded c at)) p, length-front c at, length-drop (at + length p) c)

pub inside : (c : List ℕ) (at : ℕ) (p : List ℕ) (i : ℕ) → at ≤ i → i < at + length p → get_or (overlaid c at p) i 0 ≡ get_or p (i - at) 0
inside c at p i low high =
    get_or_append_left (take at (padded c at) ++ p) (drop (at + length p) c) 0 i (omega (arith, length-append (take at (padded c at)) p, length-front c at, high))
    ∙ get_or-append_right (take at (padded c at)) p at i 0 (length-front c at) low

zeros : (n i : ℕ) → ◌≡◌ {A = ℕ} (get_or (replicate n 0) i 0) 0
zeros n i = ⊎_elim
    (λ (less : i < n). get_or-replicate n i 0 0 less)
    (λ (past : n ≤ i). get_or_past (replicate n 0) i 0 (omega (arith, past, length-replicate {A = ℕ} n 0)))
    (cases_lt i n)

padding : (c : List ℕ) (at i : ℕ) → get_or (padded c at) i 0 ≡ get_or c i 0
padding c at i = ⊎_elim
    (λ (less : i < length c). get_or_append_left c (replicate (at - length c) 0) 0 i less)
    (λ (past : length c ≤ i). get_or-append_right c (replicate (at - length c) 0) (length c) i 0 refl past ∙ zeros (at - length c) (i - length c) ∙ sym (get_or_past c i 0 past))
    (cases_lt i (length c))

pub outside : (c : List ℕ) (at : ℕ) (p : List ℕ) (i : ℕ) → (i < at) ⊎ (at + length p ≤ i) → get_or (overlaid c at p) i 0 ≡ get_or c i 0
outside c at p i apart = ⊎_elim
    (λ (low : i < at).
    get_or_append_left (take at (padded c at) ++ p) (drop (at + length p) c) 0 i (omega (arith, length-append (take at (padded c at)) p, length-front c at, low))
    ∙ get_or_append_left (take at (padded c at)) p 0 i (omega (arith, length-front c at, low))
    ∙ get_or-take at (padded c at) i 0 low
    ∙ padding c at i)
    (λ (high : at + length p ≤ i).
    get_or-append_right (take at (padded c at) ++ p) (drop (at + length p) c) (at + length p) i 0 (omega (arith, length-append (take at (padded c at)) p, length-front c at)) high
    ∙ get_or-drop (at + length p) c (i - (at + length p)) 0
    ∙ ap (λ j. get_or c j 0) (let same : at + length p + (i - (at + length p)) ≡ i = omega (arith, high) in same))
    apart

-- ---- a write, and a patch over it

-- the content with w written at b, and then p at `at`
pub record IsOver (c : List ℕ) (b : ℕ) (w : List ℕ) (at : ℕ) (p x : List ℕ) : Type 0 where
  pub size : length x ≡ max (length c) (max (b + length w) (at + length p))
  pub patch : (i : ℕ) → at ≤ i → i < at + length p → get_or x i 0 ≡ get_or p (i - at) 0
  pub wrote : (i : ℕ) → (i < at) ⊎ (at + length p ≤ i) → b ≤ i → i < b + length w → get_or x i 0 ≡ get_or w (i - b) 0
  pub rest : (i : ℕ) → (i < at) ⊎ (at + length p ≤ i) → (i < b) ⊎ (b + length w ≤ i) → get_or x i 0 ≡ get_or c i 0

pub same-over : (c : List ℕ) (b : ℕ) (w : List ℕ) (at : ℕ) (p x y : List ℕ) → IsOver c b w at p x → IsOver c b w at p y → x ≡ y
same-over c b w at p x y one two = ext_get_or 0 x y (one.size ∙ sym two.size) (λ i less. each i)
  where
    apart : (i : ℕ) → (i < at) ⊎ (at + length p ≤ i) → get_or x i 0 ≡ get_or y i 0
    apart i out = ⊎_elim
        (λ (low : i < b). one.rest i out (inl low) ∙ sym (two.rest i out (inl low)))
        (λ (low : b ≤ i). ⊎_elim
        (λ (high : i < b + length w). one.wrote i out low high ∙ sym (two.wrote i out low high))
        (λ (high : b + length w ≤ i). one.rest i out (inr high) ∙ sym (two.rest i out (inr high)))
        (cases_lt i (b + length w)))
        (cases_lt i b)

    each : (i : ℕ) → get_or x i 0 ≡ get_or y i 0
    each i = ⊎_elim
        (λ (low : i < at). apart i (inl low))
        (λ (low : at ≤ i). ⊎_elim
        (λ (high : i < at + length p). one.patch i low high ∙ sym (two.patch i low high))
        (λ (high : at + length p ≤ i). apart i (inr high))
        (cases_lt i (at + length p)))
        (cases_lt i at)

pub is-over : (c : List ℕ) (b : ℕ) (w : List ℕ) (at : ℕ) (p : List ℕ) → IsOver c b w at p (overlaid (overlaid c b w) at p)
is-over c b w at p = record {
  size = let one = length-overlaid c b w in let two = length-overlaid (overlaid c b w) at p in omega (arith, one, two);
  patch = λ i low high. inside (overlaid c b w) at p i low high;
  wrote = λ i out low high. outside (overlaid c b w) at p i out ∙ inside c b w i low high;
  rest = λ i out apart. outside (overlaid c b w) at p i out ∙ outside c b w i apart;
}

-- two writes apart, in either order
swapped : (c : List ℕ) (at : ℕ) (p : List ℕ) (b : ℕ) (w : List ℕ) → at + length p ≤ b → overlaid (overlaid c at p) b w ≡ overlaid (overlaid c b w) at p
swapped c at p b w apart = same-over c b w at p _ _ over (is-over c b w at p)
  where
    over : IsOver c b w at p (overlaid (overlaid c at p) b w)
    over = record {
      size = let one = length-overlaid c at p in let two = length-overlaid (overlaid c at p) b w in omega (arith, one, two);
      patch = λ i low high. outside (overlaid c at p) b w i (inl (omega (arith, apart, high))) ∙ inside c at p i low high;
      wrote = λ i out low high. inside (overlaid c at p) b w i low high;
      rest = λ i out other. outside (overlaid c at p) b w i other ∙ outside c at p i out;
    }

-- what is written beside a patch is what is written under it
pub beside : (c p w : List ℕ) (at b : ℕ) → overlaid (overlaid (overlaid c at p) (min b at) (take (at - b) w)) (max b (at + length p)) (drop (at + length p - b) w) ≡ overlaid (overlaid c b w) at p
beside c p w at b = same-over c b w at p _ _ over (is-over c b w at p)
  where
    end : ℕ
    end = at + length p

    first : List ℕ
    first = take (at - b) w

    last : List ℕ
    last = drop (end - b) w

    x : List ℕ
    x = overlaid c at p

    y : List ℕ
    y = overlaid x (min b at) first

    few : length first ≡ min (at - b) (length w)
    few = length-take (at - b) w

    more : length last ≡ length w - (end - b)
    more = length-drop (end - b) w

    before : (i : ℕ) → i < at → b ≤ i → i < b + length w → get_or (overlaid y (max b end) last) i 0 ≡ get_or w (i - b) 0
    before i low from high =
        outside y (max b end) last i (inl (omega (arith, low)))
        ∙ inside x (min b at) first i (omega (arith, low, from)) (omega (arith, few, low, from, high))
        ∙ get_or-take (at - b) w (i - min b at) 0 (omega (arith, low, from))
        ∙ ap (λ j. get_or w j 0) (let same : i - min b at ≡ i - b = omega (arith, low, from) in same)

    after : (i : ℕ) → end ≤ i → b ≤ i → i < b + length w → get_or (overlaid y (max b end) last) i 0 ≡ get_or w (i - b) 0
    after i past from high =
        inside y (max b end) last i (omega (arith, past, from)) (omega (arith, more, past, from, high))
        ∙ get_or-drop (end - b) w (i - max b end) 0
        ∙ ap (λ j. get_or w j 0) (let same : end - b + (i - max b end) ≡ i - b = omega (arith, past, from) in same)

    away : (i : ℕ) → (i < at) ⊎ (end ≤ i) → (i < b) ⊎ (b + length w ≤ i) → get_or (overlaid y (max b end) last) i 0 ≡ get_or c i 0
    away i out other =
        outside y (max b end) last i (⊎_elim
        (λ (low : i < at). inl (omega (arith, low)))
        (λ (past : end ≤ i). ⊎_elim (λ (low : i < b). inl (omega (arith, low))) (λ (high : b + length w ≤ i). inr (omega (arith, more, past, high))) other)
        out)
        ∙ outside x (min b at) first i (⊎_elim
        (λ (low : i < at). ⊎_elim (λ (less : i < b). inl (omega (arith, low, less))) (λ (high : b + length w ≤ i). inr (omega (arith, few, low, high))) other)
        (λ (past : end ≤ i). inr (omega (arith, few, past)))
        out)
        ∙ outside c at p i out

    over : IsOver c b w at p (overlaid y (max b end) last)
    over = record {
      size = let one = length-overlaid c at p in let two = length-overlaid x (min b at) first in let three = length-overlaid y (max b end) last in omega (arith, one, two, three, few, more);
      patch = λ i low high. outside y (max b end) last i (inl (omega (arith, high))) ∙ outside x (min b at) first i (inr (omega (arith, few, low))) ∙ inside c at p i low high;
      wrote = λ i out from high. ⊎_elim (λ (low : i < at). before i low from high) (λ (past : end ≤ i). after i past from high) out;
      rest = λ i out other. away i out other;
    }

-- ---- disks

take_fill : (k b : ℕ) (w : List ℕ) → take k (replicate (length w) b) ≡ replicate (length (take k w)) b
take_fill k b w = ⊎_elim
    (λ (less : k < length w). take-replicate k (length w) b (omega (arith, less)) ∙ ap (λ n. replicate n b) (sym (length-take-le k w (omega (arith, less)))))
    (λ (past : length w ≤ k). take_all k (replicate (length w) b) (omega (arith, past, length-replicate {A = ℕ} (length w) b)) ∙ ap (λ (l : List ℕ). replicate (length l) b) (sym (take_all k w past)))
    (cases_lt k (length w))

drop_fill : (k b : ℕ) (w : List ℕ) → drop k (replicate (length w) b) ≡ replicate (length (drop k w)) b
drop_fill k b w = drop-replicate k (length w) b ∙ ap (λ n. replicate n b) (sym (length-drop k w))

fill-beside : (c p w : List ℕ) (at begin b : ℕ) → overlaid (overlaid (overlaid c at p) (max begin (at + length p)) (replicate (length (drop (at + length p - begin) w)) b)) (min begin at) (replicate (length (take (at - begin) w)) b) ≡ overlaid (overlaid c begin (replicate (length w) b)) at p
fill-beside c p w at begin b =
    let few = length-replicate {A = ℕ} (length (take (at - begin) w)) b in
    sym (swapped (overlaid c at p) (min begin at) (replicate (length (take (at - begin) w)) b) (max begin (at + length p)) (replicate (length (drop (at + length p - begin) w)) b) (omega (arith, few, length-take (at - begin) w)))
    ∙ ap (λ (l : List ℕ). overlaid (overlaid (overlaid c at p) (min begin at) l) (max begin (at + length p)) (replicate (length (drop (at + length p - begin) w)) b)) (sym (take_fill (at - begin) b w))
    ∙ ap (λ (l : List ℕ). overlaid (overlaid (overlaid c at p) (min begin at) (take (at - begin) (replicate (length w) b))) (max begin (at + length p)) l) (sym (drop_fill (at + length p - begin) b w))
    ∙ beside c p (replicate (length w) b) at begin

pub take_min : (k : ℕ) (w : List ℕ) → take (min (length w) k) w ≡ take k w
take_min k w = ⊎_elim
    (λ (less : k < length w). ap (λ n. take n w) (let same : min (length w) k ≡ k = omega (arith, less) in same))
    (λ (past : length w ≤ k). take_all (min (length w) k) w (omega (arith, past)) ∙ sym (take_all k w past))
    (cases_lt k (length w))

pub drop_min : (k : ℕ) (w : List ℕ) → drop (min (length w) k) w ≡ drop k w
drop_min k w = ⊎_elim
    (λ (less : k < length w). ap (λ n. drop n w) (let same : min (length w) k ≡ k = omega (arith, less) in same))
    (λ (past : length w ≤ k). drop_all (min (length w) k) w (omega (arith, past)) ∙ sym (drop_all k w past))
    (cases_lt k (length w))

pub patched-fresh : (at : ℕ) (p start : List ℕ) → Patched at p (fresh start) (fresh (overlaid start at p))
patched-fresh at p start = record { content = refl; synced = refl; filled = λ b c. refl }

-- the disk that these calls make of another first content
pub patched-made : (at : ℕ) (p start : List ℕ) (first : Disk) (calls given : List Call) (end : Disk) → first ≡ fresh (overlaid start at p) → given ≡ calls → ((bytes : List ℕ) → length bytes ≡ length p → (d : Disk) → Patched at bytes d first → Patched at bytes (replay d given) end) → Patched at p (replay (fresh start) calls) end
patched-made at p start first calls given end is same patches =
    subst (λ (l : List Call). Patched at p (replay (fresh start) l) end) same (patches p refl (fresh start) (subst (λ (d : Disk). Patched at p (fresh start) d) (sym is) (patched-fresh at p start)))

pub patched-write : (at : ℕ) (p : List ℕ) (begin : ℕ) (w : List ℕ) (d e : Disk) → Patched at p d e → Patched at p (written begin w d) (written_beside at (length p) begin w e)
patched-write at p begin w d e h = record {
  content = ap (λ (l : List ℕ). overlaid (overlaid l (min begin at) (take (at - begin) w)) (max begin (at + length p)) (drop (at + length p - begin) w)) h.content ∙ beside d.content p w at begin;
  synced = h.synced;
  filled = λ b c. ap (λ (l : List ℕ). fill_all b e.writes l) (fill-beside c p w at begin b) ∙ h.filled b (overlaid c begin (replicate (length w) b));
}

pub patched-sync : (at : ℕ) (p : List ℕ) (d e : Disk) → Patched at p d e → Patched at p (all_synced d) (all_synced e)
patched-sync at p d e h = record { content = h.content; synced = h.content; filled = λ b c. refl }

-- so is what a crash is chosen to leave
pub patched-left : (at : ℕ) (p : List ℕ) (d e : Disk) (choice : Choice) → Patched at p d e → left_by choice e ≡ overlaid (left_by choice d) at p
patched-left at p d e Keep h = h.content
patched-left at p d e Drop h = h.synced
patched-left at p d e (Fill b) h = ap (λ (l : List ℕ). fill_all b e.writes l) h.content ∙ h.filled b d.content
