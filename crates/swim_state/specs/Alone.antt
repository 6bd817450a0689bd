-- Which bytes of a file a call leaves as they were.
use Rattle.std.specs.Prelude.{◌≡◌, ◌⊎◌, ℕ, ◌<◌, ◌≤◌, nat_le, List, length, slice_index}
use Rattle.std.specs.Prelude.{if◌then◌else◌}
use Rattle.swim_disk.specs.Disk.{DiskState}
use Rattle.swim_state.specs.File.{reading_at}
use Rattle.swim_state.specs.Held.{Through}
use Rattle.swim_state.specs.Second.{version_2}
use Rattle.swim_state.specs.declared.layout.TheConstants.{MARK_AT}
use Rattle.swim_state.specs.declared.layout.Slot.{Slot}
use Rattle.swim_state.specs.declared.layout.Slot.TheVariants.{A, B}
use Rattle.swim_state.specs.declared.layout.Reading.{Reading}
use Rattle.swim_state.specs.declared.layout.Reading.TheVariants.{Shut, Holds, Damaged}

-- no byte is gone, and those at these places are as they were
pub record Keeps (P : ℕ → Type 0) (old new : List ℕ) : Type 0 where
  pub no_shorter : length old ≤ length new
  pub same : (i : ℕ) → i < length old → P i → slice_index new i ≡ slice_index old i

-- the bytes at these places are as in an image of this disk
pub record KeepsImage (P : ℕ → Type 0) (disk : DiskState) (new : List ℕ) : Type 0 where
  pub image : List ℕ
  pub left : disk.images image
  pub keeps : Keeps P image new

-- The bytes at these places are left alone: what a read gives has them as before,
-- and so has what a crash may leave, now and at each moment since the old disk.
pub record LeavesAlone (P : ℕ → Type 0) (old new : DiskState) : Type 0 where
  pub read : Keeps P old.content new.content
  pub images : (c : List ℕ) → new.images c → KeepsImage P old c
  pub moments : Through (KeepsImage P old) old new

-- a place before the slots of version 2 that isn't the mark: head and slots of version 1
abbrev pub IsEarlier : ℕ → Type 0
IsEarlier i = (i < MARK_AT) ⊎ ((MARK_AT < i) × (i < version_2.body_at A))

-- a place before this slot of version 2, or after it
abbrev pub IsBeside : Slot → ℕ → Type 0
IsBeside slot i = (i < version_2.body_at slot) ⊎ (version_2.gate_at slot < i)

-- the slot that a save writes: the one that is shut, or the
-- lower one if both are open, and B if they are equal
abbrev pub target_by : Reading → Reading → Slot
target_by (Holds a) (Holds b) = if nat_le b.ceiling a.ceiling then B else A
target_by (Holds a) Shut = B
target_by (Holds a) Damaged = A
target_by Shut b = A
target_by Damaged b = A

-- the slot that a save of a file of version 2 writes
unfoldable pub target_in : List ℕ → Slot
target_in image = target_by (reading_at version_2 image A) (reading_at version_2 image B)
