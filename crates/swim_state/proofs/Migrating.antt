-- How a migration goes: first past the slots of version 1, then at the mark.
use Rattle.std.proofs.Common.{◌≡◌, ◌⊎◌, inl, inr, ⊎_elim, ℕ, ◌+◌, ◌^◌, ◌<◌, ◌≤◌, List, [], ◌∷◌, length, take, slice_index, Result, Ok, Err, true, refl, sym, ◌∙◌, ap, subst, arith, All}
use Rattle.swim_disk.proofs.Filled.{length_reaches}
use Rattle.swim_disk.specs.Disk.{DiskState, Torn, Writes, Syncs, Elapses, overlaid, IsSettled}
use Rattle.swim_disk.specs.Machinery.Torn.{overlaid_torn}
use Rattle.swim_state.specs.Layout.{bytes_from}
use Rattle.swim_state.specs.First.{version_1}
use Rattle.swim_state.specs.Second.{body, may_be_saved, version_2}
use Rattle.swim_state.specs.File.{slot_reading, reading_at, says, version_by, version_in, layout_of, floor, ceiling_of, IsOpen, IsSound}
use Rattle.swim_state.specs.Held.{Covers}
use Rattle.swim_state.specs.Machinery.Saving.{IsLaid, IsOld, Leaves, Put, Migrates}
use Rattle.swim_state.specs.declared.owner.Owner.{Owner}
use Rattle.swim_state.specs.declared.layout.Saved.{Saved}
use Rattle.swim_state.specs.declared.layout.Slot.{Slot}
use Rattle.swim_state.specs.declared.layout.Slot.TheVariants.{A, B}
use Rattle.swim_state.specs.declared.layout.Version.{Version}
use Rattle.swim_state.specs.declared.layout.Version.TheVariants.{One, Two}
use Rattle.swim_state.specs.declared.layout.Reading.TheVariants.{Shut, Holds, Damaged}
use Rattle.swim_state.proofs.Bodies.{body_reads, length-body, stand_parts}
use Rattle.swim_state.proofs.Marks.{says_in, long_as, covers_by, version_kept}
use Rattle.swim_state.proofs.Moments.{elapses_through, goes_on, weaker}
use Rattle.swim_state.proofs.Standing.{byte_kept, byte_written, reading_kept}
use Rattle.swim_state.proofs.Torn.{part_kept, overlaid_part}

-- an image that says what another one says
same_covers : (owner : Owner) (n : ℕ) (old new : List ℕ) → (layout_of (version_in new)).file_size ≤ length new → take 24 new ≡ take 24 old → ((slot : Slot) → says new slot ≡ says old slot) → Covers owner n old → Covers owner n new
same_covers owner n old new long front same covers = record {
  sound = record {
    long = long;
    front = front ∙ covers.sound.front;
    open_one = ⊎_elim (λ a. inl (subst IsOpen (sym (same A)) a)) (λ b. inr (subst IsOpen (sym (same B)) b)) covers.sound.open_one;
    good = λ slot bad. covers.sound.good slot (sym (same slot) ∙ bad);
  };
  covered = omega (arith, covers.covered, ap ceiling_of (same A), ap ceiling_of (same B));
}

long_old : (owner : Owner) (n : ℕ) (image : List ℕ) → IsOld owner n image → 16385 ≤ length image
long_old owner n image is = long_as image One is.one is.covers.sound.long

-- the slots of version 1 stay where a write is torn that doesn't meet them
ones_kept : (at n : ℕ) (old new : List ℕ) → Torn at n old new → 16385 ≤ length old → (at + n ≤ 4096) ⊎ (16385 ≤ at) → (slot : Slot) → reading_at version_1 new slot ≡ reading_at version_1 old slot
ones_kept at n old new torn long apart slot = reading_kept version_1 at n old new slot torn long
    (⊎_elim (λ low. inr (omega (arith, low, version_1.gate_past slot))) (λ high. inl (omega (arith, high, version_1.gate_within slot))) apart)
    (⊎_elim (λ low. inr (omega (arith, low, version_1.body_past slot))) (λ high. inl (omega (arith, high, version_1.body_within slot))) apart)

twos_kept : (old new : List ℕ) → Torn 2048 1 old new → 32769 ≤ length old → (slot : Slot) → reading_at version_2 new slot ≡ reading_at version_2 old slot
twos_kept old new torn long slot = reading_kept version_2 2048 1 old new slot torn long (inr (omega (arith, version_2.gate_past slot))) (inr (omega (arith, version_2.body_past slot)))

-- past the slots of version 1 any bytes leave an old image
old_kept : (owner : Owner) (m at n : ℕ) (old new : List ℕ) → Torn at n old new → 16385 ≤ at → IsOld owner m old → IsOld owner m new
old_kept owner m at n old new torn past is =
    let long = long_old owner m old is in
    let one : version_in new ≡ One = version_kept at n old new torn (omega (arith, past)) (omega (arith, long)) ∙ is.one in
    let front : take 24 new ≡ take 24 old = part_kept at n old new 0 24 torn (omega (arith, long)) (inl (omega (arith, past))) in
    record {
      one = one;
      covers = same_covers owner m old new (subst (λ v. (layout_of v).file_size ≤ length new) (sym one) (omega (arith, long, torn.no_shorter))) front
          (λ slot. says_in new One slot one ∙ ones_kept at n old new torn long (inr past) slot ∙ sym (says_in old One slot is.one)) is.covers;
    }

elapses_leaves : (P : List ℕ → Type 0) (old new : DiskState) → Elapses old new → ((c : List ℕ) → new.images c → P c) → Leaves P old new
elapses_leaves P old new time images = record { moments = elapses_through P old new time images; images = images }

-- two runs, joined
pub leaves_both : (P : List ℕ → Type 0) (old mid new : DiskState) → Leaves P old mid → Leaves P mid new → Leaves P old new
leaves_both P old mid new first second = record { moments = goes_on P old mid new first.moments second.moments; images = second.images }

-- a write past the slots of version 1, and a sync, leave images of version 1
pub write_leaves : {T E : Type 0} (owner : Owner) (m at : ℕ) (bytes : List ℕ) (result : Result T E) (old new : DiskState) → Writes at bytes result old new → 16385 ≤ at → ((c : List ℕ) → old.images c → IsOld owner m c) → Leaves (IsOld owner m) old new
write_leaves owner m at bytes result old new writes past before = elapses_leaves (IsOld owner m) old new writes.time
    (λ c left. let from = writes.images c left in old_kept owner m at (length bytes) from.0 c from.2 past (before from.0 from.1))

pub sync_leaves : {T E : Type 0} (owner : Owner) (m : ℕ) (result : Result T E) (old new : DiskState) → Syncs result old new → ((c : List ℕ) → old.images c → IsOld owner m c) → Leaves (IsOld owner m) old new
sync_leaves owner m result old new syncs before = elapses_leaves (IsOld owner m) old new syncs.rests.time (λ c left. before c (syncs.rests.images c left))

-- the slots that are laid
abbrev pub laid : List ℕ → List ℕ → List ℕ
laid old saved = overlaid (overlaid (overlaid old 20480 saved) 24576 (0xA5 ∷ [])) 32768 (0 ∷ [])

pub laid_reads : (old : List ℕ) (saved : Saved) → may_be_saved saved ≡ true → All (λ peer. peer < 2 ^ 48) saved.peers → IsLaid saved (laid old (body saved))
unfolding reading_at
laid_reads old saved stands fit =
    let size = length-body saved (stand_parts saved stands).1 in
    let first = overlaid old 20480 (body saved) in
    let second = overlaid first 24576 (0xA5 ∷ []) in
    let third = overlaid second 32768 (0 ∷ []) in
    let torn_2 : Torn 24576 1 first second = overlaid_torn first 24576 (0xA5 ∷ []) in
    let torn_3 : Torn 32768 1 second third = overlaid_torn second 32768 (0 ∷ []) in
    let long_1 : 20594 ≤ length first = omega (arith, size, length_reaches old 20480 (body saved)) in
    let long_2 : 24577 ≤ length second = length_reaches first 24576 (0xA5 ∷ []) in
    let long_3 : 32769 ≤ length third = length_reaches second 32768 (0 ∷ []) in
    let body_1 : bytes_from first 20480 114 ≡ body saved = subst (λ k. bytes_from first 20480 k ≡ body saved) size (overlaid_part old 20480 (body saved)) in
    let body_2 : bytes_from second 20480 114 ≡ bytes_from first 20480 114 = part_kept 24576 1 first second 20480 114 torn_2 (omega (arith, long_1)) (inl (omega arith)) in
    let body_3 : bytes_from third 20480 114 ≡ bytes_from second 20480 114 = part_kept 32768 1 second third 20480 114 torn_3 (omega (arith, long_2)) (inl (omega arith)) in
    let gate_a : slice_index third 24576 ≡ 0xA5 = byte_kept 32768 1 second third 24576 torn_3 (omega (arith, long_2)) (inl (omega arith)) ∙ byte_written first 24576 0xA5 in
    let gate_b : slice_index third 32768 ≡ 0 = byte_written second 32768 0 in
    record {
      long = long_3;
      a = ap (λ v. slot_reading version_2 v (bytes_from third 20480 114)) gate_a ∙ ap (slot_reading version_2 0xA5) (body_3 ∙ body_2 ∙ body_1) ∙ body_reads saved stands fit;
      b = ap (λ v. slot_reading version_2 v (bytes_from third 28672 114)) gate_b;
    }

-- once the slots lie there, any byte at the mark leaves a sound file
pub any_mark : (owner : Owner) (m : ℕ) (saved : Saved) (old new : List ℕ) → IsOld owner m old → IsLaid saved old → m ≤ saved.ceiling → Torn 2048 1 old new → Covers owner m new
any_mark owner m saved old new is lies le torn = by (version_in new) refl
  where
    front : take 24 new ≡ take 24 old
    front = part_kept 2048 1 old new 0 24 torn (omega (arith, lies.long)) (inl (omega arith))

    by : (version : Version) → version_in new ≡ version → Covers owner m new
    by One one = same_covers owner m old new (subst (λ v. (layout_of v).file_size ≤ length new) (sym one) (omega (arith, lies.long, torn.no_shorter))) front
        (λ slot. says_in new One slot one ∙ ones_kept 2048 1 old new torn (omega (arith, lies.long)) (inl (omega arith)) slot ∙ sym (says_in old One slot is.one)) is.covers
    by Two two = covers_by owner Two B saved m new two (omega (arith, lies.long, torn.no_shorter)) (front ∙ is.covers.sound.front) (twos_kept old new torn lies.long A ∙ lies.a)
        (λ bad. let e : Shut ≡ Damaged = sym (twos_kept old new torn lies.long B ∙ lies.b) ∙ bad in cc) le

pub old_covers : (owner : Owner) (m : ℕ) (old new : DiskState) → Leaves (IsOld owner m) old new → Leaves (Covers owner m) old new
old_covers owner m old new leaves = record {
  moments = weaker (IsOld owner m) (Covers owner m) old new (λ c is. is.covers) leaves.moments;
  images = λ c left. (leaves.images c left).covers;
}

-- a write of the mark, and its sync
pub mark_leaves : {T E : Type 0} (owner : Owner) (m : ℕ) (saved : Saved) (bytes : List ℕ) (result : Result T E) (old new : DiskState) → length bytes ≡ 1 → Put 2048 bytes result old new → IsOld owner m old.content → IsLaid saved old.content
    → m ≤ saved.ceiling → Leaves (Covers owner m) old new
mark_leaves owner m saved bytes result old new one put is lies le = record {
  moments = weaker (Torn 2048 (length bytes) old.content) (Covers owner m) old new by put.moments;
  images = λ c left. by c (put.images c left);
}
  where
    by : (c : List ℕ) → Torn 2048 (length bytes) old.content c → Covers owner m c
    by c torn = any_mark owner m saved old.content c is lies le (subst (λ k. Torn 2048 k old.content c) one torn)

pub mark_two : (old : List ℕ) → version_in (overlaid old 2048 (0xA5 ∷ [])) ≡ Two
mark_two old = ap version_by (byte_written old 2048 0xA5)

pub mark_lies : (saved : Saved) (old : List ℕ) → IsLaid saved old → IsLaid saved (overlaid old 2048 (0xA5 ∷ []))
mark_lies saved old lies =
    let torn : Torn 2048 1 old (overlaid old 2048 (0xA5 ∷ [])) = overlaid_torn old 2048 (0xA5 ∷ []) in
    record {
      long = omega (arith, lies.long, torn.no_shorter);
      a = twos_kept old _ torn lies.long A ∙ lies.a;
      b = twos_kept old _ torn lies.long B ∙ lies.b;
    }

pub settled_old : (owner : Owner) (disk : DiskState) → version_in disk.content ≡ One → IsSound owner disk.content → IsSettled disk → (c : List ℕ) → disk.images c → IsOld owner (floor disk.content) c
settled_old owner disk one sound settled c left = subst (IsOld owner (floor disk.content)) (sym (settled c left)) (record { one = one; covers = record { sound = sound; covered = omega arith } })

pub stopped_migrating : {E : Type 0} (owner : Owner) (m : ℕ) (e : E) (old new : DiskState) → Leaves (Covers owner m) old new → Migrates owner m (Err e) old new
stopped_migrating owner m e old new leaves = assumption

-- once the mark is written, the file is sound
pub migrated : {E : Type 0} (owner : Owner) (m : ℕ) (saved : Saved) (old new : DiskState) → Leaves (Covers owner m) old new → IsSettled new → version_in new.content ≡ Two → IsLaid saved new.content → Migrates {E = E} owner m (Ok (record { a = Holds saved; b = Shut })) old new
migrated owner m saved old new leaves settled two lies = assumption (sym lies.a, sym lies.b, (leaves.images new.content new.reads).sound)
