-- What a save does to a store.
use Rattle.std.specs.Prelude.{◌≡◌, ◌≢◌, ◌⊎◌, ℕ, ◌+◌, ◌-◌, ◌≤◌, Bool, true, false, List}
use Rattle.std.specs.Prelude.{Option, Some, None}
use Rattle.swim_disk.specs.Disk.{DiskState as DiskState, Rests}
use Rattle.swim_state.specs.Alone.{IsBeside, LeavesAlone, target_in}
use Rattle.swim_state.specs.File.{floor}
use Rattle.swim_state.specs.Store.{StoreView, reserved}
use Rattle.swim_state.specs.Held.{Held, HeldSince, Through, Covers}
use Rattle.swim_node.specs.declared.entry.Save.{Save}
use Rattle.swim_node.specs.declared.entry.Save.TheVariants.{Kept, Done, Failed}
use Rattle.swim_node.specs.History.{Saves}
use Rattle.swim_node.specs.Peers.{NamesPeers}
use Rattle.swim_wire.specs.declared.update.TheConstants.{NUMBER_MAX}

-- whether the state file is broken after a save
abbrev pub broken_after : Save → Bool → Bool
broken_after Kept broken = broken
broken_after Done broken = false
broken_after Failed broken = true

-- the ceiling that a save asks for, if a number is wanted: the
-- last of a block of so many numbers that begins with that one
abbrev pub ceiling_asked : ℕ → Option ℕ → Option ℕ
ceiling_asked block None = None
ceiling_asked block (Some wanted) = Some (reserved wanted (block - 1))

-- what a save that asks for this comes to, by the ceiling before and after it.
-- Done grants what is asked for, or the floor that a broken store reads, which
-- then is not written. Failed leaves the ceiling, or grants that floor.
pub record Grants (keeps : Type 0) (asked : Option ℕ) (save : Save) (broken : Bool)
    (old new : DiskState) (before after : ℕ) : Type 0 where
  pub exact : save ≡ Done → broken ≡ false → asked ≡ Some after
  pub done : keeps → save ≡ Done
      → (asked ≡ Some after) ⊎ ((broken ≡ true) × (after ≡ floor old.content) × Rests old new)
  pub steady : save ≡ Failed → broken ≡ false → after ≡ before
  pub failed : keeps → save ≡ Failed
      → (after ≡ before) ⊎ ((broken ≡ true) × (after ≡ floor old.content))
  pub bounded : save ≡ Done → after ≤ NUMBER_MAX

-- how often the disk fails in a save: once if it fails, but
-- for a broken store that finds another file, and else not
pub record Fails (keeps : Type 0) (save : Save) (broken : Bool) (old new : DiskState) : Type 0 where
  pub calm : save ≢ Failed → new.failures ≡ old.failures
  pub once : save ≡ Failed → broken ≡ false → new.failures ≡ old.failures + 1
  pub most : save ≡ Failed
      → (new.failures ≡ old.failures + 1) ⊎ ((broken ≡ true) × (new.failures ≡ old.failures))
  pub failed : keeps → save ≡ Failed → new.failures ≡ old.failures + 1

-- a save with these peers, its answer, and the store before and after it
pub record Saved {D : Type 0} (keeps : Type 0) (state : D → DiskState) (block : ℕ)
    (peers : List ℕ) (wanted : Option ℕ) (save : Save) (old new : StoreView D) : Type 0 where
  pub saves : Saves wanted old.ceiling save new.ceiling
  pub grants : Grants keeps (ceiling_asked block wanted) save old.broken
      (state old.disk) (state new.disk) old.ceiling new.ceiling
  pub names : NamesPeers keeps peers save old.broken
      (state old.disk) (state new.disk) old.peers new.peers
  pub fails : Fails keeps save old.broken (state old.disk) (state new.disk)
  pub broken : new.broken ≡ broken_after save old.broken
  pub grows : old.ceiling ≤ new.ceiling
  pub owner : new.owner ≡ old.owner
  pub name : (state new.disk).name ≡ (state old.disk).name
  pub kept : save ≡ Kept → new.disk ≡ old.disk
  pub moments : keeps → Through (Covers old.owner old.ceiling) (state old.disk) (state new.disk)
  pub since : keeps → HeldSince old.owner (state new.disk) (state old.disk).clock old.ceiling
  pub covered : keeps → Held new.owner (state new.disk) new.ceiling
  pub beside : keeps
      → LeavesAlone (IsBeside (target_in (state old.disk).content))
      (state old.disk) (state new.disk)
