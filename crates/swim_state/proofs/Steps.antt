-- How steps of a save follow one another.
use Rattle.std.proofs.Common.{◌≡◌, ◌≤◌, ℕ, true, List, ◌∷◌, [], length, Result, Ok, Err, OnOk, subst, sym}
use Rattle.std.proofs.lemmas.Result.{on_ok_weaker}
use Rattle.swim_disk.specs.Disk.{DiskState, Torn, overlaid}
use Rattle.swim_state.specs.Layout.{Layout, bytes_from}
use Rattle.swim_state.specs.Second.{body, version_2}
use Rattle.swim_state.specs.File.{reading_at}
use Rattle.swim_state.specs.Machinery.Saving.{Stands, SaveStep, Put}
use Rattle.swim_state.specs.declared.layout.Saved.{Saved}
use Rattle.swim_state.specs.declared.layout.Slot.{Slot}
use Rattle.swim_state.specs.declared.layout.Reading.TheVariants.{Shut}
use Rattle.swim_state.proofs.Moments.{weaker}
use Rattle.swim_state.proofs.Bodies.{length-body}
use Rattle.swim_state.proofs.Standing.{torn_gate, torn_body}
use Rattle.swim_state.proofs.Torn.{overlaid_part}
use Rattle.swim_disk.specs.Machinery.Torn.{overlaid_torn}

pub always_ok : {T E : Type 0} (P : Type 0) (result : Result T E) → P → OnOk result P
always_ok P (Ok v) p = p
always_ok P (Err e) p = tt

pub on_both : {T E : Type 0} (P Q R : Type 0) (result : Result T E) → (P → Q → R) → OnOk result P → OnOk result Q → OnOk result R
on_both P Q R (Ok v) so p q = so p q
on_both P Q R (Err e) so p q = tt

-- a step that is one write and its sync
put_step : {T E : Type 0} (layout : Layout) (front : List ℕ) (slot : Slot) (kept : Saved) (at : ℕ) (bytes : List ℕ) (Q : List ℕ → Type 0) (result : Result T E) (old new : DiskState) → Put at bytes result old new
    → ((c : List ℕ) → Torn at (length bytes) old.content c → Stands layout front slot kept c) → Q (overlaid old.content at bytes) → SaveStep layout front slot kept Q result old new
put_step layout front slot kept at bytes Q result old new put torn done = record {
  moments = weaker _ _ old new torn put.moments;
  images = λ c left. torn c (put.images c left);
  settled = put.settled;
  done = on_ok_weaker result (λ is. subst Q (sym is) done) put.done;
}

pub gate_step : {T E : Type 0} (layout : Layout) (front : List ℕ) (slot : Slot) (kept : Saved) (at v : ℕ) (Q : List ℕ → Type 0) (result : Result T E) (old new : DiskState) → at ≡ layout.gate_at slot → Put at (v ∷ []) result old new
    → Stands layout front slot kept old.content → layout.is_good (bytes_from old.content (layout.body_at slot) layout.body_size) ≡ true → Q (overlaid old.content (layout.gate_at slot) (v ∷ [])) → SaveStep layout front slot kept Q result old new
gate_step layout front slot kept at v Q result old new is put stands good done =
    put_step layout front slot kept (layout.gate_at slot) (v ∷ []) Q result old new (subst (λ a. Put a (v ∷ []) result old new) is put)
    (λ c torn. torn_gate layout front slot kept old.content c stands good torn) done

-- what a slot says once its body is written
body_written : (front : List ℕ) (slot : Slot) (kept saved : Saved) (old : List ℕ) → length saved.peers ≤ 8 → Stands version_2 front slot kept old → reading_at version_2 old slot ≡ Shut
    → (reading_at version_2 (overlaid old (version_2.body_at slot) (body saved)) slot ≡ Shut) × (bytes_from (overlaid old (version_2.body_at slot) (body saved)) (version_2.body_at slot) 114 ≡ body saved)
body_written front slot kept saved old few stands shut =
    let new = overlaid old (version_2.body_at slot) (body saved) in
    let size = length-body saved few in
    let torn : Torn (version_2.body_at slot) 114 old new = subst (λ k. Torn (version_2.body_at slot) k old new) size (overlaid_torn old (version_2.body_at slot) (body saved)) in (
      (torn_body version_2 front slot kept old new stands shut torn).1,
      subst (λ k. bytes_from new (version_2.body_at slot) k ≡ body saved) size (overlaid_part old (version_2.body_at slot) (body saved)),
    )

pub body_step : {T E : Type 0} (front : List ℕ) (slot : Slot) (kept : Saved) (at : ℕ) (saved : Saved) (bytes : List ℕ) (result : Result T E) (old new : DiskState) → length saved.peers ≤ 8 → at ≡ version_2.body_at slot → bytes ≡ body saved → Put at bytes result old new
    → Stands version_2 front slot kept old.content → reading_at version_2 old.content slot ≡ Shut
    → SaveStep version_2 front slot kept (λ c. (reading_at version_2 c slot ≡ Shut) × (bytes_from c (version_2.body_at slot) 114 ≡ body saved)) result old new
body_step front slot kept at saved bytes result old new few is are put stands shut =
    put_step version_2 front slot kept (version_2.body_at slot) (body saved) _ result old new (subst (λ b. Put (version_2.body_at slot) b result old new) are (subst (λ a. Put a bytes result old new) is put))
    (λ c torn. (torn_body version_2 front slot kept old.content c stands shut (subst (λ k. Torn (version_2.body_at slot) k old.content c) (length-body saved few) torn)).0) (body_written front slot kept saved old.content few stands shut)

-- what a read gives after a step is one of its images
pub stands_after : {T E : Type 0} {layout : Layout} {front : List ℕ} {slot : Slot} {kept : Saved} {Q : List ℕ → Type 0} {result : Result T E} {old new : DiskState} → SaveStep layout front slot kept Q result old new → Stands layout front slot kept new.content
stands_after {new = new} step = step.images new.content new.reads
