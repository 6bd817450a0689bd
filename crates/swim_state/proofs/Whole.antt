-- A whole save, from its three steps.
use Rattle.std.proofs.lemmas.Bool.{cases_Bool, le-leb, lt-leb}
use Rattle.std.proofs.Common.{Bool, false, nat_le, if◌then◌else◌, slice_index, ◌≡◌, ◌≢◌, inl, inr, ℕ, ◌==◌, [], ◌^◌, ◌<◌, ◌≤◌, true, List, take, Result, OnOk, refl, subst, sym, ◌∙◌, ap, arith}
use Rattle.swim_disk.specs.Disk.{DiskState, IsSettled}
use Rattle.swim_state.specs.Layout.{other_slot, bytes_from}
use Rattle.swim_state.specs.First.{alone, version_1}
use Rattle.swim_state.specs.declared.layout.Reading.{Reading}
use Rattle.swim_state.specs.Second.{is_good, version_2}
use Rattle.swim_state.specs.File.{head, reading_at, reading_in, floor, floor_of, floor_peers, says, peers_by, peers_of, peers_in, version_in, layout_of, ceiling_of, IsOpen, IsSound, AreUsable, AreOf}
use Rattle.swim_state.specs.Held.{Covers, Through}
use Rattle.swim_state.specs.Machinery.Saving.{Stands, Saves}
use Rattle.swim_state.specs.declared.owner.Owner.{Owner}
use Rattle.swim_state.specs.declared.layout.Saved.{Saved}
use Rattle.swim_state.specs.declared.layout.Slot.{Slot}
use Rattle.swim_state.specs.declared.layout.Slot.TheVariants.{A, B}
use Rattle.swim_state.specs.declared.layout.Reading.TheVariants.{Shut, Holds, Damaged}
use Rattle.swim_state.specs.declared.slots.Slots.{Slots}
use Rattle.swim_state.specs.declared.layout.Version.{Version}
use Rattle.swim_state.specs.declared.layout.Version.TheVariants.{One, Two}
use Rattle.swim_state.proofs.Marks.{block_begins, block_marked, says_in, long_as, stands_two, stands_covers}
use Rattle.swim_state.proofs.Standing.{read_good}
use Rattle.swim_state.proofs.Moments.{weaker}
use Rattle.swim_state.proofs.Steps.{always_ok}

of_slot : (image : List ℕ) (slots : Slots) (slot : Slot) → AreOf version_2 image slots → reading_in slots slot ≡ reading_at version_2 image slot
of_slot image slots A are = are.a
of_slot image slots B are = are.b

whole : (slots : Slots) (slot : Slot) → AreUsable slots → reading_in slots slot ≢ Damaged
whole slots A usable = usable.whole_a
whole slots B usable = usable.whole_b

-- A save begins: the other slot holds what has the floor, over the first block of a sound file of version 2.
pub record Begun (owner : Owner) (image : List ℕ) (slots : Slots) (slot : Slot) (kept : Saved) : Type 0 where
  pub begins : take 24 (take 4096 image) ≡ head owner
  pub mark : slice_index (take 4096 image) 2048 ≡ 0xA5
  pub floor : kept.ceiling ≡ floor_of slots
  pub stands : Stands version_2 (take 4096 image) slot kept image

pub begun : {owner : Owner} {image : List ℕ} {slots : Slots} (slot : Slot) (other : (kept : Saved) × (reading_in slots (other_slot slot) ≡ Holds kept) × (kept.ceiling ≡ floor_of slots)) → IsSound owner image → version_in image ≡ Two → AreOf version_2 image slots → Begun owner image slots slot other.0
begun {owner} {image} {slots} slot (kept, held, floor) sound two are = record {
  begins = block_begins owner image sound;
  mark = block_marked image two;
  floor = floor;
  stands = record {
    long = long_as image Two two sound.long;
    front = refl;
    held = sym (of_slot image slots (other_slot slot) are) ∙ held;
    whole = λ bad. sound.good slot (says_in image Two slot two ∙ bad);
  };
}

-- a slot that isn't shut has a good body
pub filled_from : (image : List ℕ) (slots : Slots) (slot : Slot) → AreUsable slots → AreOf version_2 image slots → (reading_in slots slot ≡ Shut → ⊥) → is_good (bytes_from image (version_2.body_at slot) 114) ≡ true
filled_from image slots slot usable are open_gate =
    let same = of_slot image slots slot are in
    read_good version_2 image slot (λ shut. open_gate (same ∙ shut)) (λ bad. whole slots slot usable (same ∙ bad))

pub are_with : (image : List ℕ) (new : Slots) (slot : Slot) (kept saved : Saved) → reading_at version_2 image slot ≡ Holds saved → reading_at version_2 image (other_slot slot) ≡ Holds kept → reading_in new slot ≡ Holds saved → reading_in new (other_slot slot) ≡ Holds kept → AreOf version_2 image new
are_with image new A kept saved is stands written held = record { a = written ∙ sym is; b = held ∙ sym stands }
are_with image new B kept saved is stands written held = record { a = held ∙ sym stands; b = written ∙ sym is }

-- the slots after a save
pub slots_with : (new : Slots) (slot : Slot) (kept saved : Saved) → reading_in new slot ≡ Holds saved → reading_in new (other_slot slot) ≡ Holds kept → kept.ceiling < saved.ceiling → saved.ceiling ≤ 2 ^ 62 → AreUsable new × (floor_of new ≡ saved.ceiling) × (peers_in new ≡ saved.peers)
slots_with new A kept saved written held less le = (
  record { open_one = inl (subst IsOpen (sym written) tt); whole_a = λ bad. cc; whole_b = λ bad. cc; bounded = omega (arith, ap ceiling_of written, ap ceiling_of held) },
  omega (arith, ap ceiling_of written, ap ceiling_of held),
  rw (written, held) (ap (λ t. if t then saved.peers else kept.peers) (le-leb kept.ceiling saved.ceiling (omega arith))),
)
slots_with new B kept saved written held less le = (
  record { open_one = inr (subst IsOpen (sym written) tt); whole_a = λ bad. cc; whole_b = λ bad. cc; bounded = omega (arith, ap ceiling_of written, ap ceiling_of held) },
  omega (arith, ap ceiling_of written, ap ceiling_of held),
  rw (written, held) (ap (λ t. if t then kept.peers else saved.peers) (lt-leb saved.ceiling kept.ceiling less)),
)

-- what stands on the way covers the floor
covers : {owner : Owner} {image : List ℕ} {slots : Slots} {slot : Slot} {kept : Saved} → Begun owner image slots slot kept → (c : List ℕ) → Stands version_2 (take 4096 image) slot kept c → Covers owner (floor_of slots) c
covers {owner} {image} {slots} {slot} {kept} begin c stands = stands_covers owner (take 4096 image) slot kept (floor_of slots) c begin.begins begin.mark begin.floor stands

-- a save that was done, or stopped
pub saved : {T E : Type 0} {owner : Owner} {image : List ℕ} {slots : Slots} {slot : Slot} {kept : Saved} (begin : Begun owner image slots slot kept) (after : Slots) (result : Result T E) {old new : DiskState}
    → Through (Stands version_2 (take 4096 image) slot kept) old new → ((c : List ℕ) → new.images c → Stands version_2 (take 4096 image) slot kept c)
    → OnOk result (IsSettled new) → OnOk result (AreOf version_2 new.content after) → Saves owner (floor_of slots) after result old new
saved {T} {E} {owner} {image} {slots} {slot} {kept} begin after result {old} {new} moments images settled same = record {
  moments = weaker _ _ old new (λ c stands. covers begin c stands) moments;
  images = λ c left. (covers begin c (images c left), stands_two (take 4096 image) slot kept c begin.mark (images c left));
  settled = settled;
  sound = always_ok _ result (covers begin new.content (images new.content new.reads)).sound;
  same = same;
}

-- the floor of an image is that of the slots read from it, and so are the peers
pub are_says : (image : List ℕ) (version : Version) (slots : Slots) → version_in image ≡ version → AreOf (layout_of version) image slots → AreOf (layout_of (version_in image)) image slots
are_says image version slots is same = subst (λ v. AreOf (layout_of v) image slots) (sym is) same

pub floor_read : (image : List ℕ) (slots : Slots) → AreOf (layout_of (version_in image)) image slots → floor_of slots ≡ floor image
floor_read image slots same = λ i. floor_of (record { a = same.a i; b = same.b i })

pub peers_read : (image : List ℕ) (slots : Slots) → AreOf (layout_of (version_in image)) image slots → peers_in slots ≡ floor_peers image
peers_read image slots same = λ i. peers_in (record { a = same.a i; b = same.b i })

-- a settled file of version 2, by its slots
pub settled_held : (owner : Owner) (disk : DiskState) (slots : Slots) → IsSettled disk → version_in disk.content ≡ Two → IsSound owner disk.content → AreOf version_2 disk.content slots → (c : List ℕ) → disk.images c → Covers owner (floor_of slots) c
settled_held owner disk slots settled two sound same c left =
    subst (Covers owner (floor_of slots)) (sym (settled c left)) (record { sound = sound; covered = omega (arith, floor_read disk.content slots (are_says disk.content Two slots two same)) })

pub settled_peers : (disk : DiskState) (slots : Slots) → IsSettled disk → version_in disk.content ≡ Two → AreOf version_2 disk.content slots → (c : List ℕ) → disk.images c → floor_peers c ≡ peers_in slots
settled_peers disk slots settled two same c left = ap floor_peers (settled c left) ∙ sym (peers_read disk.content slots (are_says disk.content Two slots two same))

-- a file of version 1 has no peers
no_peers : (t good : Bool) (ceiling : ℕ) → peers_of (if t then (if good then Holds (alone ceiling) else Damaged) else Shut) ≡ []
no_peers true true ceiling = refl
no_peers true false ceiling = refl
no_peers false good ceiling = refl

none_at : (image : List ℕ) (slot : Slot) → peers_of (reading_at version_1 image slot) ≡ []
unfolding reading_at
none_at image slot = no_peers (slice_index image (version_1.gate_at slot) == 0xA5) (version_1.is_good (bytes_from image (version_1.body_at slot) 16)) _

neither : (a b : Reading) → peers_of a ≡ [] → peers_of b ≡ [] → peers_by a b ≡ []
neither (Holds a) (Holds b) in_a in_b = elim (cases_Bool (nat_le b.ceiling a.ceiling)) [ inl t ↦ rw t in_a | inr f ↦ rw f in_b ]
neither (Holds a) Shut in_a in_b = in_a
neither (Holds a) Damaged in_a in_b = in_a
neither Shut b in_a in_b = in_b
neither Damaged b in_a in_b = in_b

pub one_peers : (image : List ℕ) → version_in image ≡ One → floor_peers image ≡ []
one_peers image one = neither (says image A) (says image B) (ap peers_of (says_in image One A one) ∙ none_at image A) (ap peers_of (says_in image One B one) ∙ none_at image B)
