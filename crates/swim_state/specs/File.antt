-- What a state file says.
use Rattle.std.specs.Prelude.{◌≡◌, ◌⊎◌, ◌≢◌, ℕ, ◌≤◌, max, ◌==◌, List, [], ◌++◌, length, take}
use Rattle.std.specs.Prelude.{slice_index, if◌then◌else◌, nat_le, Option, Some, None, codes}
use Rattle.byteorder.specs.Endian.{big_bytes}
use Rattle.swim_state.specs.First.{version_1}
use Rattle.swim_state.specs.Layout.{Layout, bytes_from}
use Rattle.swim_state.specs.Second.{version_2}
use Rattle.swim_state.specs.declared.owner.Owner.{Owner}
use Rattle.swim_state.specs.declared.layout.Saved.{Saved}
use Rattle.swim_state.specs.declared.layout.Slot.{Slot}
use Rattle.swim_state.specs.declared.slots.Slots.{Slots}
use Rattle.swim_state.specs.declared.layout.Slot.TheVariants.{A, B}
use Rattle.swim_state.specs.declared.layout.Version.{Version}
use Rattle.swim_state.specs.declared.layout.Version.TheVariants.{One, Two}
use Rattle.swim_state.specs.declared.layout.Reading.{Reading}
use Rattle.swim_state.specs.declared.layout.Reading.TheVariants.{Shut, Holds, Damaged}
use Rattle.swim_wire.specs.declared.update.TheConstants.{NUMBER_MAX}

-- the letters `SWIMSTAT`, and 1, in both versions
unfoldable pub letters : List ℕ
letters = codes "SWIMSTAT" ++ big_bytes 2 1

-- the group and the endpoint
unfoldable pub owner_bytes : Owner → List ℕ
owner_bytes owner = big_bytes 8 owner.group ++ big_bytes 6 owner.me

-- the first 24 bytes
abbrev pub head : Owner → List ℕ
head owner = letters ++ owner_bytes owner

-- what the mark says: version 2 if it is A5, and version 1 with any other byte
abbrev pub version_by : ℕ → Version
version_by mark = if mark == 0xA5 then Two else One

-- the mark is the byte at 2048
abbrev pub version_in : List ℕ → Version
version_in image = version_by (slice_index image 2048)

-- where a version has its parts, and how its bodies are read
abbrev pub layout_of : Version → Layout
layout_of One = version_1
layout_of Two = version_2

-- what a body says, and nothing if it isn't good
abbrev pub said : Layout → List ℕ → Option Saved
said layout bytes = if layout.is_good bytes then Some (layout.saved_in bytes) else None

-- what a gate byte and a body say
abbrev pub slot_reading : Layout → ℕ → List ℕ → Reading
slot_reading layout gate bytes =
    if gate == 0xA5
    then (if layout.is_good bytes then Holds (layout.saved_in bytes) else Damaged)
    else Shut

-- what a slot of this version says
unfoldable pub reading_at : Layout → List ℕ → Slot → Reading
reading_at layout image slot =
    slot_reading layout (slice_index image (layout.gate_at slot))
    (bytes_from image (layout.body_at slot) layout.body_size)

-- what a slot of the file says: of the version that its mark names
abbrev pub says : List ℕ → Slot → Reading
says image slot = reading_at (layout_of (version_in image)) image slot

-- the slot's gate is open, over a good body or a damaged one
abbrev pub IsOpen : Reading → Type 0
IsOpen Shut = ⊥
IsOpen (Holds saved) = Unit {0}
IsOpen Damaged = Unit {0}

-- the ceiling that a slot counts for
abbrev pub ceiling_of : Reading → ℕ
ceiling_of Shut = 0
ceiling_of (Holds saved) = saved.ceiling
ceiling_of Damaged = 0

-- the peers that a slot has
abbrev pub peers_of : Reading → List ℕ
peers_of Shut = []
peers_of (Holds saved) = saved.peers
peers_of Damaged = []

-- long enough for its version, with the owner's head, an
-- open gate, and a good body behind each open gate
pub record IsSound (owner : Owner) (image : List ℕ) : Type 0 where
  pub long : (layout_of (version_in image)).file_size ≤ length image
  pub front : take 24 image ≡ head owner
  pub open_one : IsOpen (says image A) ⊎ IsOpen (says image B)
  pub good : (slot : Slot) → says image slot ≢ Damaged

-- the greatest ceiling behind an open gate
abbrev pub floor : List ℕ → ℕ
floor image = max (ceiling_of (says image A)) (ceiling_of (says image B))

-- the peers that stand with the greater ceiling, and with equal ones those of slot A
abbrev pub peers_by : Reading → Reading → List ℕ
peers_by (Holds a) (Holds b) = if nat_le b.ceiling a.ceiling then a.peers else b.peers
peers_by (Holds a) Shut = a.peers
peers_by (Holds a) Damaged = a.peers
peers_by Shut b = peers_of b
peers_by Damaged b = peers_of b

-- the peers that stand with the floor; a file of version 1 has none
abbrev pub floor_peers : List ℕ → List ℕ
floor_peers image = peers_by (says image A) (says image B)

-- what a slot says
abbrev pub reading_in : Slots → Slot → Reading
reading_in slots A = slots.a
reading_in slots B = slots.b

-- the floor that two readings give, and the peers that stand with it
abbrev pub floor_of : Slots → ℕ
floor_of slots = max (ceiling_of slots.a) (ceiling_of slots.b)

abbrev pub peers_in : Slots → List ℕ
peers_in slots = peers_by slots.a slots.b

-- one gate is open, and no slot is damaged
pub record AreUsable (slots : Slots) : Type 0 where
  pub open_one : IsOpen slots.a ⊎ IsOpen slots.b
  pub whole_a : slots.a ≢ Damaged
  pub whole_b : slots.b ≢ Damaged
  pub bounded : floor_of slots ≤ NUMBER_MAX

-- the slots are those that this version has in the image
pub record AreOf (layout : Layout) (image : List ℕ) (slots : Slots) : Type 0 where
  pub a : slots.a ≡ reading_at layout image A
  pub b : slots.b ≡ reading_at layout image B
