-- The version of an image, and what a slot of it says.
use Rattle.std.proofs.Common.{◌≡◌, ◌≢◌, ◌⊎◌, inl, inr, ℕ, ◌≤◌, ◌<◌, Bool, true, false, ◌==◌, if◌then◌else◌, List, length, take, slice_index, refl, sym, ◌∙◌, ap, subst, arith}
use Rattle.std.proofs.lemmas.Bool.{eqb-true}
use Rattle.std.proofs.lemmas.List.{get_or-take, take-take}
use Rattle.swim_disk.specs.Disk.{Torn}
use Rattle.swim_state.specs.Layout.{other_slot}
use Rattle.swim_state.specs.Second.{version_2}
use Rattle.swim_state.specs.File.{head, reading_at, says, version_by, version_in, layout_of, IsOpen, IsSound, ceiling_of, floor}
use Rattle.swim_state.specs.Held.{Covers}
use Rattle.swim_state.specs.Machinery.Saving.{Stands}
use Rattle.swim_state.specs.declared.owner.Owner.{Owner}
use Rattle.swim_state.specs.declared.layout.Saved.{Saved}
use Rattle.swim_state.specs.declared.layout.Slot.{Slot}
use Rattle.swim_state.specs.declared.layout.Slot.TheVariants.{A, B}
use Rattle.swim_state.specs.declared.layout.Version.{Version}
use Rattle.swim_state.specs.declared.layout.Version.TheVariants.{One, Two}
use Rattle.swim_state.specs.declared.layout.Reading.TheVariants.{Holds, Damaged}
use Rattle.swim_state.proofs.Standing.{byte_kept}

by_two : (t : Bool) → (if t then Two else One) ≡ Two → t ≡ true
by_two true is = refl
by_two false is = cc

-- version 2 has the mark
pub marked : (image : List ℕ) → version_in image ≡ Two → slice_index image 2048 ≡ 0xA5
marked image two = eqb-true (slice_index image 2048) 0xA5 (by_two (slice_index image 2048 == 0xA5) two)

pub says_in : (image : List ℕ) (version : Version) (slot : Slot) → version_in image ≡ version → says image slot ≡ reading_at (layout_of version) image slot
says_in image version slot is = ap (λ v. reading_at (layout_of v) image slot) is

-- each file is as long as one of version 1
pub long_in : (version : Version) → 16385 ≤ (layout_of version).file_size
long_in One = omega arith
long_in Two = omega arith

pub long_as : (image : List ℕ) (version : Version) → version_in image ≡ version → (layout_of (version_in image)).file_size ≤ length image → (layout_of version).file_size ≤ length image
long_as image version is long = subst (λ v. (layout_of v).file_size ≤ length image) is long

good_slots : (version : Version) (slot : Slot) (kept : Saved) (image : List ℕ) → version_in image ≡ version → reading_at (layout_of version) image (other_slot slot) ≡ Holds kept → reading_at (layout_of version) image slot ≢ Damaged → (each : Slot) → says image each ≢ Damaged
good_slots version A kept image is held whole A = λ bad. whole (sym (says_in image version A is) ∙ bad)
good_slots version A kept image is held whole B = λ bad. let e : Holds kept ≡ Damaged = sym held ∙ sym (says_in image version B is) ∙ bad in cc
good_slots version B kept image is held whole A = λ bad. let e : Holds kept ≡ Damaged = sym held ∙ sym (says_in image version A is) ∙ bad in cc
good_slots version B kept image is held whole B = λ bad. whole (sym (says_in image version B is) ∙ bad)

open_slot : (version : Version) (slot : Slot) (kept : Saved) (image : List ℕ) → version_in image ≡ version → reading_at (layout_of version) image (other_slot slot) ≡ Holds kept → IsOpen (says image A) ⊎ IsOpen (says image B)
open_slot version A kept image is held = inr (subst IsOpen (sym (says_in image version B is ∙ held)) tt)
open_slot version B kept image is held = inl (subst IsOpen (sym (says_in image version A is ∙ held)) tt)

floor_kept : (version : Version) (slot : Slot) (kept : Saved) (image : List ℕ) → version_in image ≡ version → reading_at (layout_of version) image (other_slot slot) ≡ Holds kept → kept.ceiling ≤ floor image
floor_kept version A kept image is held = omega (arith, ap ceiling_of (says_in image version B is ∙ held))
floor_kept version B kept image is held = omega (arith, ap ceiling_of (says_in image version A is ∙ held))

-- an image in which one slot holds something and the other isn't damaged
pub covers_by : (owner : Owner) (version : Version) (slot : Slot) (kept : Saved) (n : ℕ) (image : List ℕ) → version_in image ≡ version → (layout_of version).file_size ≤ length image → take 24 image ≡ head owner
    → reading_at (layout_of version) image (other_slot slot) ≡ Holds kept → reading_at (layout_of version) image slot ≢ Damaged → n ≤ kept.ceiling → Covers owner n image
covers_by owner version slot kept n image is long begins held whole le = record {
  sound = record {
    long = subst (λ v. (layout_of v).file_size ≤ length image) (sym is) long;
    front = begins;
    open_one = open_slot version slot kept image is held;
    good = good_slots version slot kept image is held whole;
  };
  covered = omega (arith, le, floor_kept version slot kept image is held);
}

take_front : (image : List ℕ) → take 24 (take 4096 image) ≡ take 24 image
take_front image = take-take 24 4096 image (omega arith)

take_mark : (image : List ℕ) → slice_index (take 4096 image) 2048 ≡ slice_index image 2048
take_mark image = get_or-take 4096 image 2048 0 (omega arith)

pub block_begins : (owner : Owner) (image : List ℕ) → IsSound owner image → take 24 (take 4096 image) ≡ head owner
block_begins owner image sound = take_front image ∙ sound.front

pub block_marked : (image : List ℕ) → version_in image ≡ Two → slice_index (take 4096 image) 2048 ≡ 0xA5
block_marked image two = take_mark image ∙ marked image two

pub stands_two : (front : List ℕ) (slot : Slot) (kept : Saved) (image : List ℕ) → slice_index front 2048 ≡ 0xA5 → Stands version_2 front slot kept image → version_in image ≡ Two
stands_two front slot kept image mark stands = ap version_by (sym (take_mark image) ∙ ap (λ (l : List ℕ). slice_index l 2048) stands.front ∙ mark)

-- an image in which the other slot stands covers what it holds
pub stands_covers : (owner : Owner) (front : List ℕ) (slot : Slot) (kept : Saved) (n : ℕ) (image : List ℕ) → take 24 front ≡ head owner → slice_index front 2048 ≡ 0xA5 → kept.ceiling ≡ n → Stands version_2 front slot kept image → Covers owner n image
stands_covers owner front slot kept n image begins mark is stands =
    covers_by owner Two slot kept n image (stands_two front slot kept image mark stands) stands.long (sym (take_front image) ∙ ap (λ (l : List ℕ). take 24 l) stands.front ∙ begins) stands.held stands.whole (omega (arith, is))

-- a torn write past the mark leaves the version
pub version_kept : (at n : ℕ) (old new : List ℕ) → Torn at n old new → 2048 < at → 2048 < length old → version_in new ≡ version_in old
version_kept at n old new torn past long = ap version_by (byte_kept at n old new 2048 torn long (inl (omega (arith, past))))
