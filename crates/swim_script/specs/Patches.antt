-- A disk with other bytes in one place.
use Rattle.std.specs.Prelude.{◌≡◌, ℕ, List}
use Rattle.swim_disk.specs.Choice.{left_by}
use Rattle.swim_disk.specs.Disk.{overlaid}
use Rattle.swim_disk.specs.MemDisk.{disk_of, state_of}
use Rattle.swim_disk.specs.Part.{AlwaysHas}
use Rattle.swim_disk.specs.declared.mem.Choice.{Choice}
use Rattle.swim_disk.specs.declared.mem.MemDisk.{MemDisk}

-- the new disk is the old one with these bytes at `at`, at once and for
-- good: whatever a crash leaves has them there, and all other bytes are
-- those of the old one, of what a read gives and of what each crash leaves
pub record IsPatched (at : ℕ) (bytes : List ℕ) (old new : MemDisk) : Type 0 where
  pub stands : AlwaysHas at bytes (state_of new)
  pub content : (state_of new).content ≡ overlaid (state_of old).content at bytes
  pub left : (choice : Choice)
      → left_by choice (disk_of new) ≡ overlaid (left_by choice (disk_of old)) at bytes
  pub name : (state_of new).name ≡ (state_of old).name
