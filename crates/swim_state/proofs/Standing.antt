-- What stays true of a file while one slot is written.
use Rattle.std.proofs.Common.{◌≡◌, ◌≢◌, inl, ⊎_elim, ℕ, ◌+◌, ◌<◌, ◌≤◌, Bool, true, false, ◌==◌, if◌then◌else◌, List, [], ◌∷◌, length, take, get_or, slice_index, refl, sym, ◌∙◌, ap, arith}
use Rattle.swim_disk.specs.Disk.{Torn, overlaid}
use Rattle.swim_state.specs.Layout.{Layout, Apart, other_slot, bytes_from}
use Rattle.swim_state.specs.File.{slot_reading, reading_at}
use Rattle.swim_state.specs.Machinery.Saving.{Stands}
use Rattle.swim_state.specs.declared.layout.Saved.{Saved}
use Rattle.swim_state.specs.declared.layout.Slot.{Slot}
use Rattle.swim_state.specs.declared.layout.Reading.TheVariants.{Shut, Holds, Damaged}
use Rattle.std.proofs.lemmas.List.{get_or_past}
use Rattle.swim_disk.specs.Machinery.Torn.{overlaid_torn}
use Rattle.swim_state.proofs.Torn.{part_kept, index-part, overlaid_part}

pub byte_kept : (at n : ℕ) (old new : List ℕ) (p : ℕ) → Torn at n old new → p < length old → Apart at n p 1 → slice_index new p ≡ slice_index old p
byte_kept at n old new p torn within apart = ⊎_elim (λ b. torn.before p within (omega (arith, b))) (λ a. torn.after p within a) apart

pub reading_kept : (layout : Layout) (at n : ℕ) (old new : List ℕ) (slot : Slot) → Torn at n old new → layout.file_size ≤ length old → Apart at n (layout.gate_at slot) 1 → Apart at n (layout.body_at slot) layout.body_size
    → reading_at layout new slot ≡ reading_at layout old slot
unfolding reading_at
reading_kept layout at n old new slot torn long ga ba =
    let gate = byte_kept at n old new (layout.gate_at slot) torn (omega (arith, long, layout.gate_within slot)) ga in
    let bytes = part_kept at n old new (layout.body_at slot) layout.body_size torn (omega (arith, long, layout.body_within slot)) ba in
    ap (λ v. slot_reading layout v (bytes_from new (layout.body_at slot) layout.body_size)) gate ∙ ap (λ (l : List ℕ). slot_reading layout (slice_index old (layout.gate_at slot)) l) bytes

-- the first block is never written
block_kept : (layout : Layout) (at n : ℕ) (old new : List ℕ) → Torn at n old new → 4096 ≤ at → layout.file_size ≤ length old → take 4096 new ≡ take 4096 old
block_kept layout at n old new torn past long = part_kept at n old new 0 4096 torn (omega (arith, long, layout.whole_block)) (inl (omega (arith, past)))

gate_kept : (layout : Layout) (slot : Slot) (old new : List ℕ) → layout.file_size ≤ length old → Torn (layout.body_at slot) layout.body_size old new → slice_index new (layout.gate_at slot) ≡ slice_index old (layout.gate_at slot)
gate_kept layout slot old new long torn = byte_kept (layout.body_at slot) layout.body_size old new (layout.gate_at slot) torn (omega (arith, long, layout.gate_within slot)) (layout.body_apart slot slot)

pub body_kept : (layout : Layout) (slot : Slot) (old new : List ℕ) → layout.file_size ≤ length old → Torn (layout.gate_at slot) 1 old new → bytes_from new (layout.body_at slot) layout.body_size ≡ bytes_from old (layout.body_at slot) layout.body_size
body_kept layout slot old new long torn = part_kept (layout.gate_at slot) 1 old new (layout.body_at slot) layout.body_size torn (omega (arith, long, layout.body_within slot)) (layout.gate_apart slot slot)

-- what a reading says, by its two tests
verdict_shut : (is_open good : Bool) (n : Saved) → (if is_open then (if good then Holds n else Damaged) else Shut) ≡ Shut → is_open ≡ false
verdict_shut true true n is = cc
verdict_shut true false n is = cc
verdict_shut false good n is = refl

verdict_whole : (is_open good : Bool) (n : Saved) → good ≡ true → (if is_open then (if good then Holds n else Damaged) else Shut) ≢ Damaged
verdict_whole true true n is bad = cc
verdict_whole true false n is bad = cc
verdict_whole false good n is bad = cc

-- a byte that was written
pub byte_written : (old : List ℕ) (at v : ℕ) → slice_index (overlaid old at (v ∷ [])) at ≡ v
byte_written old at v =
    let new = overlaid old at (v ∷ []) in
    sym (index-part new at 1 0 (omega arith) ∙ ap (λ i. slice_index new i) (let same : at + 0 ≡ at = omega arith in same)) ∙ ap (λ (l : List ℕ). get_or l 0 0) (overlaid_part old at (v ∷ []))

-- a gate past the end is shut
pub past_the_end : (layout : Layout) (image : List ℕ) (slot : Slot) → length image ≤ layout.gate_at slot → reading_at layout image slot ≡ Shut
unfolding reading_at
past_the_end layout image slot past = ap (λ v. slot_reading layout v (bytes_from image (layout.body_at slot) layout.body_size)) (get_or_past image (layout.gate_at slot) 0 past)

-- over a shut gate any body is shut
still_shut : (layout : Layout) (gate : ℕ) (bytes other_bytes : List ℕ) → slot_reading layout gate bytes ≡ Shut → slot_reading layout gate other_bytes ≡ Shut
still_shut layout gate bytes other_bytes is =
    let shut = verdict_shut (gate == 0xA5) (layout.is_good bytes) (layout.saved_in bytes) is in
    rw shut

good_whole : (layout : Layout) (gate : ℕ) (bytes : List ℕ) → layout.is_good bytes ≡ true → slot_reading layout gate bytes ≢ Damaged
good_whole layout gate bytes good = verdict_whole (gate == 0xA5) (layout.is_good bytes) (layout.saved_in bytes) good

-- over a good body any gate byte leaves what stands
pub torn_gate : (layout : Layout) (front : List ℕ) (slot : Slot) (kept : Saved) (old new : List ℕ) → Stands layout front slot kept old → layout.is_good (bytes_from old (layout.body_at slot) layout.body_size) ≡ true
    → Torn (layout.gate_at slot) 1 old new → Stands layout front slot kept new
unfolding reading_at
torn_gate layout front slot kept old new stands good torn = record {
  long = omega (arith, stands.long, torn.no_shorter);
  front = block_kept layout (layout.gate_at slot) 1 old new torn (layout.gate_past slot) stands.long ∙ stands.front;
  held = reading_kept layout (layout.gate_at slot) 1 old new (other_slot slot) torn stands.long (layout.gates_apart slot) (layout.gate_apart slot (other_slot slot)) ∙ stands.held;
  whole = good_whole layout (slice_index new (layout.gate_at slot)) (bytes_from new (layout.body_at slot) layout.body_size) (ap layout.is_good (body_kept layout slot old new stands.long torn) ∙ good);
}

-- behind a shut gate any body leaves what stands
pub torn_body : (layout : Layout) (front : List ℕ) (slot : Slot) (kept : Saved) (old new : List ℕ) → Stands layout front slot kept old → reading_at layout old slot ≡ Shut
    → Torn (layout.body_at slot) layout.body_size old new → Stands layout front slot kept new × (reading_at layout new slot ≡ Shut)
unfolding reading_at
torn_body layout front slot kept old new stands shut torn =
    let size = layout.body_size in
    let gate = gate_kept layout slot old new stands.long torn in
    let now_shut : reading_at layout new slot ≡ Shut = ap (λ v. slot_reading layout v (bytes_from new (layout.body_at slot) size)) gate ∙ still_shut layout (slice_index old (layout.gate_at slot)) (bytes_from old (layout.body_at slot) size) (bytes_from new (layout.body_at slot) size) shut in (
      record {
        long = omega (arith, stands.long, torn.no_shorter);
        front = block_kept layout (layout.body_at slot) size old new torn (layout.body_past slot) stands.long ∙ stands.front;
        held = reading_kept layout (layout.body_at slot) size old new (other_slot slot) torn stands.long (layout.body_apart slot (other_slot slot)) (layout.bodies_apart slot) ∙ stands.held;
        whole = λ bad. let e : Shut ≡ Damaged = sym now_shut ∙ bad in cc;
      },
      now_shut,
    )

-- what a slot says once its gate is written
pub gate_written : (layout : Layout) (slot : Slot) (old : List ℕ) (v : ℕ) → layout.file_size ≤ length old → reading_at layout (overlaid old (layout.gate_at slot) (v ∷ [])) slot ≡ slot_reading layout v (bytes_from old (layout.body_at slot) layout.body_size)
unfolding reading_at
gate_written layout slot old v long =
    let at = layout.gate_at slot in
    let new = overlaid old at (v ∷ []) in
    let torn : Torn at 1 old new = overlaid_torn old at (v ∷ []) in
    ap (λ b. slot_reading layout b (bytes_from new (layout.body_at slot) layout.body_size)) (byte_written old at v) ∙ ap (λ (l : List ℕ). slot_reading layout v l) (body_kept layout slot old new long torn)

verdict_good : (is_open good : Bool) (saved : Saved) → ((if is_open then (if good then Holds saved else Damaged) else Shut) ≡ Shut → ⊥) → ((if is_open then (if good then Holds saved else Damaged) else Shut) ≡ Damaged → ⊥) → good ≡ true
verdict_good true true saved open_gate whole = refl
verdict_good true false saved open_gate whole = absurd (whole refl)
verdict_good false good saved open_gate whole = absurd (open_gate refl)

pub read_good : (layout : Layout) (image : List ℕ) (slot : Slot) → (reading_at layout image slot ≡ Shut → ⊥) → (reading_at layout image slot ≡ Damaged → ⊥) → layout.is_good (bytes_from image (layout.body_at slot) layout.body_size) ≡ true
unfolding reading_at
read_good layout image slot open_gate whole = verdict_good (slice_index image (layout.gate_at slot) == 0xA5) (layout.is_good (bytes_from image (layout.body_at slot) layout.body_size)) (layout.saved_in (bytes_from image (layout.body_at slot) layout.body_size)) open_gate whole
