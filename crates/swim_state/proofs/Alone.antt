-- How bytes that are left alone stay so from call to call.
use Rattle.std.proofs.Common.{◌≡◌, ◌⊎◌, inl, inr, ⊎_elim, ℕ, ◌+◌, ◌<◌, ◌≤◌, List, length, Result, Ok, Err, refl, sym, ◌∙◌, subst, arith}
use Rattle.swim_disk.specs.Disk.{DiskState, Torn, Rests, Elapses, Writes}
use Rattle.swim_disk.specs.Machinery.Torn.{overlaid_torn}
use Rattle.swim_state.specs.Alone.{Keeps, KeepsImage, LeavesAlone, IsBeside, IsEarlier, target_by, target_in}
use Rattle.swim_state.specs.File.{AreOf}
use Rattle.swim_state.specs.Second.{version_2}
use Rattle.swim_state.specs.Machinery.Saving.{Put}
use Rattle.swim_state.specs.declared.layout.Slot.{Slot}
use Rattle.swim_state.specs.declared.layout.Slot.TheVariants.{A, B}
use Rattle.swim_state.specs.declared.slots.Slots.{Slots}
use Rattle.swim_state.proofs.Moments.{elapses_through, goes_on, weaker}

keeps_all : (P : ℕ → Type 0) (xs : List ℕ) → Keeps P xs xs
keeps_all P xs = record { no_shorter = omega arith; same = λ i less at. refl }

keeps_on : (P : ℕ → Type 0) (old mid new : List ℕ) → Keeps P old mid → Keeps P mid new → Keeps P old new
keeps_on P old mid new first second = record {
  no_shorter = omega (arith, first.no_shorter, second.no_shorter);
  same = λ i less at. second.same i (omega (arith, less, first.no_shorter)) at ∙ first.same i less at;
}

torn_keeps : (P : ℕ → Type 0) (at n : ℕ) (old new : List ℕ) → ((i : ℕ) → P i → (i < at) ⊎ (at + n ≤ i)) → Torn at n old new → Keeps P old new
torn_keeps P at n old new apart torn = record {
  no_shorter = torn.no_shorter;
  same = λ i less is. ⊎_elim (λ below. torn.before i less below) (λ above. torn.after i less above) (apart i is);
}

-- an image of the old disk keeps itself, and what keeps one of a later disk keeps one of the old disk
image_kept : (P : ℕ → Type 0) (disk : DiskState) (c : List ℕ) → disk.images c → KeepsImage P disk c
image_kept P disk c left = record { image = c; left = left; keeps = keeps_all P c }

image_on : (P : ℕ → Type 0) (old mid : DiskState) (c : List ℕ) → LeavesAlone P old mid → KeepsImage P mid c → KeepsImage P old c
image_on P old mid c first second =
    let from = first.images second.image second.left in
    record { image = from.image; left = from.left; keeps = keeps_on P from.image second.image c from.keeps second.keeps }

pub alone_on : (P : ℕ → Type 0) (old mid new : DiskState) → LeavesAlone P old mid → LeavesAlone P mid new → LeavesAlone P old new
alone_on P old mid new first second = record {
  read = keeps_on P old.content mid.content new.content first.read second.read;
  images = λ c left. image_on P old mid c first (second.images c left);
  moments = goes_on (KeepsImage P old) old mid new first.moments (weaker (KeepsImage P mid) (KeepsImage P old) mid new (λ c kept. image_on P old mid c first kept) second.moments);
}

elapses_alone : (P : ℕ → Type 0) (old new : DiskState) → Keeps P old.content new.content → Elapses old new → ((c : List ℕ) → new.images c → KeepsImage P old c) → LeavesAlone P old new
elapses_alone P old new read time images = record { read = read; images = images; moments = elapses_through (KeepsImage P old) old new time images }

-- a call that writes nothing
pub rests_alone : (P : ℕ → Type 0) (old new : DiskState) → Rests old new → LeavesAlone P old new
rests_alone P old new rests = elapses_alone P old new (subst (Keeps P old.content) (sym rests.content) (keeps_all P old.content)) rests.time (λ c left. image_kept P old c (rests.images c left))

-- a write beside these places, done or failed
written : {T E : Type 0} (P : ℕ → Type 0) (at : ℕ) (bytes : List ℕ) (result : Result T E) (old new : DiskState) → ((i : ℕ) → P i → (i < at) ⊎ (at + length bytes ≤ i)) → Writes at bytes result old new → Keeps P old.content new.content
written P at bytes (Ok v) old new apart writes = subst (Keeps P old.content) (sym writes.done) (torn_keeps P at (length bytes) old.content _ apart (overlaid_torn old.content at bytes))
written P at bytes (Err e) old new apart writes = torn_keeps P at (length bytes) old.content new.content apart writes.failed

pub write_alone : {T E : Type 0} (P : ℕ → Type 0) (at : ℕ) (bytes : List ℕ) (result : Result T E) (old new : DiskState) → ((i : ℕ) → P i → (i < at) ⊎ (at + length bytes ≤ i)) → Writes at bytes result old new → LeavesAlone P old new
write_alone P at bytes result old new apart writes = elapses_alone P old new (written P at bytes result old new apart writes) writes.time
    (λ c left. let from = writes.images c left in record { image = from.0; left = from.1; keeps = torn_keeps P at (length bytes) from.0 c apart from.2 })

-- a write beside these places, and its sync
pub put_alone : {T E : Type 0} (P : ℕ → Type 0) (at : ℕ) (bytes : List ℕ) (result : Result T E) (old new : DiskState) → ((i : ℕ) → P i → (i < at) ⊎ (at + length bytes ≤ i)) → Put at bytes result old new → LeavesAlone P old new
put_alone P at bytes result old new apart put = record {
  read = torn_keeps P at (length bytes) old.content new.content apart (put.images new.content new.reads);
  images = λ c left. by c (put.images c left);
  moments = weaker (Torn at (length bytes) old.content) (KeepsImage P old) old new by put.moments;
}
  where
    by : (c : List ℕ) → Torn at (length bytes) old.content c → KeepsImage P old c
    by c torn = record { image = old.content; left = old.reads; keeps = torn_keeps P at (length bytes) old.content c apart torn }

-- what leaves more alone leaves less alone
pub alone_less : (P Q : ℕ → Type 0) (old new : DiskState) → ((i : ℕ) → Q i → P i) → LeavesAlone P old new → LeavesAlone Q old new
alone_less P Q old new so alone = record {
  read = fewer old.content new.content alone.read;
  images = λ c left. by c (alone.images c left);
  moments = weaker (KeepsImage P old) (KeepsImage Q old) old new by alone.moments;
}
  where
    fewer : (xs ys : List ℕ) → Keeps P xs ys → Keeps Q xs ys
    fewer xs ys keeps = record { no_shorter = keeps.no_shorter; same = λ i less at. keeps.same i less (so i at) }

    by : (c : List ℕ) → KeepsImage P old c → KeepsImage Q old c
    by c kept = record { image = kept.image; left = kept.left; keeps = fewer kept.image c kept.keeps }

body_below : (slot : Slot) → version_2.body_at slot + 114 ≤ version_2.gate_at slot
body_below A = omega arith
body_below B = omega arith

-- what comes before the slots of version 2 lies beside each of them
pub earlier_beside : (slot : Slot) (i : ℕ) → IsEarlier i → IsBeside slot i
earlier_beside A i = ⊎_elim (λ below. inl (omega (arith, below))) (λ between. inl between.1)
earlier_beside B i = ⊎_elim (λ below. inl (omega (arith, below))) (λ between. inl (omega (arith, between.1)))

-- a part of a slot, written and synced
part_put_alone : {T E : Type 0} (slot : Slot) (at : ℕ) (bytes : List ℕ) (result : Result T E) (old new : DiskState) → version_2.body_at slot ≤ at → at + length bytes ≤ version_2.gate_at slot + 1 → Put at bytes result old new → LeavesAlone (IsBeside slot) old new
part_put_alone slot at bytes result old new from to = put_alone (IsBeside slot) at bytes result old new (λ i. ⊎_elim (λ below. inl (omega (arith, below, from))) (λ above. inr (omega (arith, above, to))))

pub gate_put_alone : {T E : Type 0} (slot : Slot) (at : ℕ) (bytes : List ℕ) (result : Result T E) (old new : DiskState) → at ≡ version_2.gate_at slot → length bytes ≡ 1 → Put at bytes result old new → LeavesAlone (IsBeside slot) old new
gate_put_alone slot at bytes result old new is one = part_put_alone slot at bytes result old new (omega (arith, is, body_below slot)) (omega (arith, is, one))

pub body_put_alone : {T E : Type 0} (slot : Slot) (at : ℕ) (bytes : List ℕ) (result : Result T E) (old new : DiskState) → at ≡ version_2.body_at slot → length bytes ≡ 114 → Put at bytes result old new → LeavesAlone (IsBeside slot) old new
body_put_alone slot at bytes result old new is size = part_put_alone slot at bytes result old new (omega (arith, is)) (omega (arith, is, size, body_below slot))

-- past the slots of version 1, and at the mark
pub past_alone : {T E : Type 0} (at : ℕ) (bytes : List ℕ) (result : Result T E) (old new : DiskState) → 20480 ≤ at → Writes at bytes result old new → LeavesAlone IsEarlier old new
past_alone at bytes result old new past = write_alone IsEarlier at bytes result old new (λ i. ⊎_elim (λ below. inl (omega (arith, below, past))) (λ between. inl (omega (arith, between.1, past))))

pub mark_alone : {T E : Type 0} (bytes : List ℕ) (result : Result T E) (old new : DiskState) → length bytes ≡ 1 → Put 2048 bytes result old new → LeavesAlone IsEarlier old new
mark_alone bytes result old new one = put_alone IsEarlier 2048 bytes result old new (λ i. ⊎_elim (λ below. inl below) (λ between. inr (omega (arith, between.0, one))))

-- the slots that were read tell which one is the target
pub target_read : (image : List ℕ) (slots : Slots) → AreOf version_2 image slots → target_by slots.a slots.b ≡ target_in image
unfolding target_in
target_read image slots are = λ i. target_by (are.a i) (are.b i)

-- beside the slot that is the target
pub alone_at : {slot target : Slot} {old new : DiskState} → slot ≡ target → LeavesAlone (IsBeside slot) old new → LeavesAlone (IsBeside target) old new
alone_at {old = old} {new = new} is alone = subst (λ slot. LeavesAlone (IsBeside slot) old new) is alone
