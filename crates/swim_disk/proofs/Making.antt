-- What writes make of some bytes, one more or one less of them.
use Rattle.std.proofs.Common.{zero, suc, Vec, drop-cons, remove, ◌≡◌, ◌⊎◌, inl, inr, ⊎_elim, ℕ, ◌+◌, ◌-◌, ◌<◌, ◌≤◌, max, List, [], ◌∷◌, ◌++◌, length, take, drop, get_or, refl, sym, ◌∙◌, ap, subst, arith}
use Rattle.std.specs.declared.alloc.Global.{Global}
use Rattle.std.proofs.lemmas.Bool.{cases_lt, false≢true}
use Rattle.std.proofs.lemmas.List.{ext_get_or, take_all, drop_all, take-append-drop, take-append-le, drop-append-le, take_more}
use Rattle.swim_disk.specs.Disk.{overlaid}
use Rattle.swim_disk.specs.Machinery.Made.{AreWrites, Covers, made, kept_by}
use Rattle.swim_disk.specs.Replay.{Disk, Leaves, fresh, step, written, all_synced, replay, end_of}
use Rattle.swim_disk.specs.declared.past.Call.{Call}
use Rattle.swim_disk.specs.declared.past.Call.TheVariants.{Write, Sync}
use Rattle.swim_disk.proofs.Patched.{length-overlaid, inside, outside}
use Rattle.swim_disk.proofs.Recorded.{replay_more}

pub made_append : (start : List ℕ) (first last : List Call) → made start (first ++ last) ≡ made (made start first) last
made_append start [] last = refl
made_append start (Write at bytes ∷ first) last = made_append (overlaid start at bytes.items) first last
made_append start (Sync ∷ first) last = made_append start first last

pub replay_made : (d : Disk) (calls : List Call) → (replay d calls).content ≡ made d.content calls
replay_made d [] = refl
replay_made d (Write at bytes ∷ calls) = replay_made (written at bytes.items d) calls
replay_made d (Sync ∷ calls) = replay_made (all_synced d) calls

-- ---- lengths

pub length_once : (start : List ℕ) (call : Call) → length (made start (call ∷ [])) ≡ max (length start) (end_of call)
length_once start (Write at bytes) = length-overlaid start at bytes.items
length_once start Sync = omega arith

pub made_grows : (start : List ℕ) (calls : List Call) → length start ≤ length (made start calls)
made_grows start [] = omega arith
made_grows start (Write at bytes ∷ calls) = omega (arith, length-overlaid start at bytes.items, made_grows (overlaid start at bytes.items) calls)
made_grows start (Sync ∷ calls) = made_grows start calls

-- each call ends within what they all make
pub ends_made : (start : List ℕ) (calls : List Call) (k : ℕ) (call : Call) → k < length calls → call ≡ get_or calls k call → end_of call ≤ length (made start calls)
ends_made start [] k call less is = absurd (omega (arith, less))
ends_made start (first ∷ calls) zero call less is =
    omega (arith, ap (λ (x : Call). end_of x) is, length_once start first, made_grows (made start (first ∷ [])) calls, ap (λ (l : List ℕ). length l) (made_append start (first ∷ []) calls))
ends_made start (first ∷ calls) (suc k) call less is =
    omega (arith, ends_made (made start (first ∷ [])) calls k call (omega (arith, less)) is, ap (λ (l : List ℕ). length l) (made_append start (first ∷ []) calls))

-- no more than all of them make
pub first_shorter : (start : List ℕ) (calls : List Call) (k : ℕ) → length (made start (take k calls)) ≤ length (made start calls)
first_shorter start calls k =
    omega (
      arith,
      made_grows (made start (take k calls)) (drop k calls),
      ap (λ (l : List ℕ). length l) (made_append start (take k calls) (drop k calls)),
      ap (λ (l : List Call). length (made start l)) (take-append-drop k calls),
    )

-- one call more
pub made_next : (start : List ℕ) (calls : List Call) (k : ℕ) (call : Call) → k < length calls → call ≡ get_or calls k call → made start (take (k + 1) calls) ≡ made (made start (take k calls)) (call ∷ [])
made_next start calls k call less is =
    ap (λ (l : List Call). made start l) (take_more calls k call less ∙ ap (λ (c : Call). take k calls ++ c ∷ []) (sym is))
    ∙ made_append start (take k calls) (call ∷ [])

-- ---- writes that are left out

-- the same length and the same bytes, but for a range and for what ends before its end
pub record AreBeside (at end : ℕ) (x y : List ℕ) : Type 0 where
  pub size : max (length x) end ≡ max (length y) end
  pub same : (i : ℕ) → (i < at) ⊎ (end ≤ i) → get_or x i 0 ≡ get_or y i 0

-- one write more on either
beside_write : (at end from : ℕ) (w x y : List ℕ) → AreBeside at end x y → AreBeside at end (overlaid x from w) (overlaid y from w)
beside_write at end from w x y beside = record {
  size = omega (arith, beside.size, length-overlaid x from w, length-overlaid y from w);
  same = λ i out. ⊎_elim
      (λ (low : i < from). outside x from w i (inl low) ∙ beside.same i out ∙ sym (outside y from w i (inl low)))
      (λ (low : from ≤ i). ⊎_elim
      (λ (high : i < from + length w). inside x from w i low high ∙ sym (inside y from w i low high))
      (λ (high : from + length w ≤ i). outside x from w i (inr high) ∙ beside.same i out ∙ sym (outside y from w i (inr high)))
      (cases_lt i (from + length w)))
      (cases_lt i from);
}

-- a write over all of the range
pub beside_over : (at end from : ℕ) (w x y : List ℕ) → AreBeside at end x y → from ≤ at → end ≤ from + length w → overlaid x from w ≡ overlaid y from w
beside_over at end from w x y beside low high =
    ext_get_or 0 (overlaid x from w) (overlaid y from w) (omega (arith, beside.size, high, length-overlaid x from w, length-overlaid y from w)) (λ i less. ⊎_elim
    (λ (before : i < from). outside x from w i (inl before) ∙ beside.same i (inl (omega (arith, before, low))) ∙ sym (outside y from w i (inl before)))
    (λ (past : from ≤ i). ⊎_elim
    (λ (within : i < from + length w). inside x from w i past within ∙ sym (inside y from w i past within))
    (λ (after : from + length w ≤ i). outside x from w i (inr after) ∙ beside.same i (inr (omega (arith, after, high))) ∙ sym (outside y from w i (inr after)))
    (cases_lt i (from + length w)))
    (cases_lt i from))

-- the call writes each byte of the range
abbrev Spans : ℕ → ℕ → Call → Type 0
Spans at end (Write from bytes) = (from ≤ at) × (end ≤ from + length bytes.items)
Spans at end Sync = ⊥

spans : (call : Call) (at : ℕ) (old : Vec ℕ Global) → Covers call (Write at old) → Spans at (at + length old.items) call
spans (Write from bytes) at old covers = covers
spans Sync at old covers = covers

same_later : (at end : ℕ) (x y : List ℕ) (later : List Call) (k : ℕ) (call : Call) → k < length later → call ≡ get_or later k call → Spans at end call → AreBeside at end x y → made x later ≡ made y later
same_later at end x y [] k call less is over beside = absurd (omega (arith, less))
same_later at end x y (Write from w ∷ later) zero call less is over beside =
    let all : Spans at end (Write from w) = subst (λ (c : Call). Spans at end c) is over in
    ap (λ (l : List ℕ). made l later) (beside_over at end from w.items x y beside all.0 all.1)
same_later at end x y (Sync ∷ later) zero call less is over beside = absurd (subst (λ (c : Call). Spans at end c) is over)
same_later at end x y (Write from w ∷ later) (suc k) call less is over beside =
    same_later at end (overlaid x from w.items) (overlaid y from w.items) later k call (omega (arith, less)) is over (beside_write at end from w.items x y beside)
same_later at end x y (Sync ∷ later) (suc k) call less is over beside = same_later at end x y later k call (omega (arith, less)) is over beside

pub beside_once : (at : ℕ) (w x : List ℕ) → AreBeside at (at + length w) (overlaid x at w) x
beside_once at w x = record {
  size = omega (arith, length-overlaid x at w);
  same = λ i out. outside x at w i out;
}

-- a call of which a later one writes every byte
pub left_out : (call other : Call) (later : List Call) (k : ℕ) → k < length later → other ≡ get_or later k other → Covers other call → (start : List ℕ) → made start (call ∷ later) ≡ made start later
left_out (Write at bytes) other later k less is covers start =
    same_later at (at + length bytes.items) (overlaid start at bytes.items) start later k other less is (spans other at bytes covers) (beside_once at bytes.items start)
left_out Sync other later k less is covers start = refl

pub made_removed : (writes : List Call) (place : ℕ) (call : Call) (later : List Call) → place < length writes → call ≡ get_or writes place call → later ≡ drop (place + 1) writes
    → ((start : List ℕ) → made start (call ∷ later) ≡ made start later)
    → (start : List ℕ) → made start (remove writes place) ≡ made start writes
made_removed writes place call later less is rest same start =
    let first = made start (take place writes) in
    let left : later ≡ drop (suc place) writes = rest ∙ ap (λ n. drop n writes) (let next : place + 1 ≡ suc place = omega arith in next) in
    made_append start (take place writes) (drop (suc place) writes)
    ∙ ap (λ (l : List Call). made first l) (sym left)
    ∙ sym (same first)
    ∙ ap (λ (l : List Call). made first (call ∷ l)) left
    ∙ ap (λ (c : Call). made first (c ∷ drop (suc place) writes)) is
    ∙ ap (λ (l : List Call). made first l) (sym (drop-cons writes place call less))
    ∙ sym (made_append start (take place writes) (drop place writes))
    ∙ ap (λ (l : List Call). made start l) (take-append-drop place writes)

-- ---- calls with no sync among them

pub writes_append : (first last : List Call) → AreWrites first → AreWrites last → AreWrites (first ++ last)
writes_append [] last one two = two
writes_append (Write at bytes ∷ first) last one two = writes_append first last one two
writes_append (Sync ∷ first) last one two = absurd (false≢true one)

pub writes_take : (n : ℕ) (calls : List Call) → AreWrites calls → AreWrites (take n calls)
writes_take zero calls are = refl
writes_take (suc n) [] are = refl
writes_take (suc n) (Write at bytes ∷ calls) are = writes_take n calls are
writes_take (suc n) (Sync ∷ calls) are = absurd (false≢true are)

pub writes_drop : (n : ℕ) (calls : List Call) → AreWrites calls → AreWrites (drop n calls)
writes_drop zero calls are = are
writes_drop (suc n) [] are = refl
writes_drop (suc n) (Write at bytes ∷ calls) are = writes_drop n calls are
writes_drop (suc n) (Sync ∷ calls) are = absurd (false≢true are)

pub writes_removed : (calls : List Call) (place : ℕ) → AreWrites calls → AreWrites (remove calls place)
writes_removed calls place are = writes_append (take place calls) (drop (suc place) calls) (writes_take place calls are) (writes_drop (suc place) calls are)

-- they sync nothing
pub synced_same : (d : Disk) (calls : List Call) → AreWrites calls → (replay d calls).synced ≡ d.synced
synced_same d [] are = refl
synced_same d (Write at bytes ∷ calls) are = synced_same (written at bytes.items d) calls are
synced_same d (Sync ∷ calls) are = absurd (false≢true are)

-- ---- a disk by the writes that it keeps

pub content_kept : (start : List ℕ) (writes : List Call) (n : ℕ) → (kept_by start writes n).content ≡ made start writes
content_kept start writes n =
    replay_made (fresh (made start (take n writes))) (drop n writes)
    ∙ sym (made_append start (take n writes) (drop n writes))
    ∙ ap (λ (l : List Call). made start l) (take-append-drop n writes)

pub all_kept : (start : List ℕ) (writes : List Call) (n : ℕ) → length writes ≤ n → kept_by start writes n ≡ fresh (made start writes)
all_kept start writes n all =
    ap (λ (l : List Call). replay (fresh (made start l)) (drop n writes)) (take_all n writes all)
    ∙ ap (λ (l : List Call). replay (fresh (made start writes)) l) (drop_all n writes all)

-- one write more
pub kept_write : (start : List ℕ) (history writes : List Call) (n : ℕ) (call : Call) → n ≤ length writes → replay (fresh start) history ≡ kept_by start writes n
    → replay (fresh start) (history ++ call ∷ []) ≡ kept_by start (writes ++ call ∷ []) n
kept_write start history writes n call le was =
    replay_more (fresh start) history call
    ∙ ap (λ (d : Disk). step call d) was
    ∙ sym (replay_more (fresh (made start (take n writes))) (drop n writes) call)
    ∙ ap (λ (l : List Call). replay (fresh (made start (take n writes))) l) (sym (drop-append-le n writes (call ∷ []) le))
    ∙ ap (λ (l : List Call). replay (fresh (made start l)) (drop n (writes ++ call ∷ []))) (sym (take-append-le n writes (call ∷ []) le))

-- a sync of them all
pub kept_sync : (start : List ℕ) (history writes new : List Call) (n m : ℕ) → replay (fresh start) history ≡ kept_by start writes n → made start new ≡ made start writes → length new ≤ m
    → replay (fresh start) (history ++ Sync ∷ []) ≡ kept_by start new m
kept_sync start history writes new n m was same all =
    replay_more (fresh start) history Sync
    ∙ ap (λ (d : Disk). fresh d.content) was
    ∙ ap fresh (content_kept start writes n ∙ sym same)
    ∙ sym (all_kept start new m all)

-- the writes alone, and then a sync
pub only_kept : (start : List ℕ) (writes : List Call) (m : ℕ) → length writes ≤ m → replay (fresh start) (writes ++ Sync ∷ []) ≡ kept_by start writes m
only_kept start writes m all =
    replay_more (fresh start) writes Sync
    ∙ ap fresh (replay_made (fresh start) writes)
    ∙ sym (all_kept start writes m all)

-- a crash leaves what was synced last, if nothing came after
pub settled_synced : (start : List ℕ) (calls : List Call) (c : List ℕ) → Leaves (replay (fresh start) (calls ++ Sync ∷ [])) c → c ≡ (replay (fresh start) (calls ++ Sync ∷ [])).content
settled_synced start calls c left =
    let more = replay_more (fresh start) calls Sync in
    let is : c ≡ (replay (fresh start) calls).content = subst (λ (d : Disk). Leaves d c) more left in
    is ∙ sym (ap (λ (d : Disk). d.content) more)

-- ---- bytes

-- a byte that a call doesn't write
pub not_there : (call : Call) (at : ℕ) (bytes : Vec ℕ Global) (place : ℕ) (start : List ℕ) → call ≡ Write at bytes → (place < at) ⊎ (at + length bytes.items ≤ place) → get_or (made start (call ∷ [])) place 0 ≡ get_or start place 0
not_there call at bytes place start is out = ap (λ (c : Call). get_or (made start (c ∷ [])) place 0) is ∙ outside start at bytes.items place out

-- ---- what a disk tells by its writes

pub history_made : (start : List ℕ) (history writes : List Call) (n : ℕ) → replay (fresh start) history ≡ kept_by start writes n → (replay (fresh start) history).content ≡ made start writes
history_made start history writes n was = ap (λ (d : Disk). d.content) was ∙ content_kept start writes n

-- the same bytes and writes by other names
pub made_same : (start s : List ℕ) (writes w : List Call) → s ≡ start → w ≡ writes → made s w ≡ made start writes
made_same start s writes w begins same = ap (λ (l : List ℕ). made l w) begins ∙ ap (λ (l : List Call). made start l) same

pub only_made : (start : List ℕ) (writes : List Call) → (replay (fresh start) (writes ++ Sync ∷ [])).content ≡ made start writes
only_made start writes = ap (λ (d : Disk). d.content) (replay_more (fresh start) writes Sync) ∙ replay_made (fresh start) writes

-- the first n calls, the last of which is known
pub made_before : (start : List ℕ) (calls : List Call) (n : ℕ) (call : Call) → 0 < n → n ≤ length calls → call ≡ get_or calls (n - 1) call → made start (take n calls) ≡ made (made start (take (n - 1) calls)) (call ∷ [])
made_before start calls n call some le is =
    ap (λ m. made start (take m calls)) (let same : n ≡ n - 1 + 1 = omega (arith, some) in same)
    ∙ made_next start calls (n - 1) call (omega (arith, some, le)) is
