-- What a save does to a store: any save, and a raise of the ceiling.
use Rattle.std.specs.Prelude.{◌≡◌, ◌⊎◌, ℕ, ◌+◌, ◌<◌, ◌≤◌, true, false, List}
use Rattle.std.specs.Prelude.{Result, OnOk, OnErr, IsErrOf}
use Rattle.swim_disk.specs.Disk.{DiskState, Rests}
use Rattle.swim_state.specs.Alone.{IsBeside, LeavesAlone, target_in}
use Rattle.swim_state.specs.File.{floor, floor_peers}
use Rattle.swim_state.specs.Held.{Covers, HasPeers, Held, HeldSince, Through}
use Rattle.swim_state.specs.Store.{StoreView, reserved}
use Rattle.swim_state.specs.declared.fault.SaveFault.{SaveFault}
use Rattle.swim_state.specs.declared.fault.SaveFault.TheVariants.{Device, Changed, Exhausted}
use Rattle.swim_wire.specs.declared.update.TheConstants.{NUMBER_MAX}

-- the store has this ceiling, with these peers
pub record HasCeiling {D : Type 0} (ceiling : ℕ) (peers : List ℕ) (store : StoreView D)
    : Type 0 where
  pub ceiling_is : store.ceiling ≡ ceiling
  pub peers_are : store.peers ≡ peers

-- the store was broken, and has the floor that it read, with the peers that stand with it
pub record ReadsFloor {D : Type 0} (state : D → DiskState) (old new : StoreView D)
    : Type 0 where
  pub broken : old.broken ≡ true
  pub floor_is : HasCeiling (floor (state old.disk).content)
      (floor_peers (state old.disk).content) new

-- it is the same disk, of which one call failed if the
-- answer is Device, and none if it is any other
pub record CountsFaults {T : Type 0} (result : Result T SaveFault) (old new : DiskState)
    : Type 0 where
  pub name : new.name ≡ old.name
  pub device : IsErrOf result Device → new.failures ≡ old.failures + 1
  pub calm : (IsErrOf result Device → ⊥) → new.failures ≡ old.failures

-- what a save does where the disk keeps the model, whatever it answers
pub record Guards {D : Type 0} (state : D → DiskState) (result : Result (Unit {0}) SaveFault)
    (old new : StoreView D) : Type 0 where
  -- the file is the one that the store left
  pub changed : IsErrOf result Changed → ⊥
  -- no moment leaves less than the old ceiling, and the end no less than the new one
  pub held : Held old.owner (state old.disk) old.ceiling
  pub moments : Through (Covers old.owner old.ceiling) (state old.disk) (state new.disk)
  pub since : HeldSince old.owner (state new.disk) (state old.disk).clock old.ceiling
  pub covered : Held new.owner (state new.disk) new.ceiling
  -- after Ok a crash leaves just the store's peers
  pub named : OnOk result (HasPeers (state new.disk) new.peers)
  -- after a fault stands what stood, or what a broken store read
  pub stood : OnErr result (HasCeiling old.ceiling old.peers new ⊎ ReadsFloor state old new)
  -- one slot is written, and all beside it stays
  pub beside : LeavesAlone (IsBeside (target_in (state old.disk).content))
      (state old.disk) (state new.disk)

-- a save was tried: what it does, whatever it asks for and answers
pub record Tries {D : Type 0} (keeps : Type 0) (state : D → DiskState)
    (result : Result (Unit {0}) SaveFault) (old new : StoreView D) : Type 0 where
  pub owner : new.owner ≡ old.owner
  pub counts : CountsFaults result (state old.disk) (state new.disk)
  pub grows : old.ceiling ≤ new.ceiling
  -- only a broken store reads the file again
  pub reread : IsErrOf result Changed → old.broken ≡ true
  pub steady : OnErr result (old.broken ≡ false → HasCeiling old.ceiling old.peers new)
  pub guards : keeps → Guards state result old new

-- A raise of the ceiling to a number, and so many spare ones beyond it, with these peers. Ok grants
-- just that, or the floor that a broken store read where this is no less: then nothing was written.
pub record Raises {D : Type 0} (keeps : Type 0) (state : D → DiskState) (to spare : ℕ)
    (peers : List ℕ) (result : Result (Unit {0}) SaveFault) (old new : StoreView D)
    : Type 0 where
  pub tries : Tries keeps state result old new
  -- the number is one that there is
  pub room : IsErrOf result Exhausted → ⊥
  pub ok : OnOk result (to ≤ new.ceiling × new.ceiling ≤ NUMBER_MAX × new.broken ≡ false)
  pub err : OnErr result (new.ceiling < to × new.broken ≡ true)
  pub exact : OnOk result (old.broken ≡ false → HasCeiling (reserved to spare) peers new)
  pub raised : keeps → OnOk result (HasCeiling (reserved to spare) peers new
      ⊎ (ReadsFloor state old new × Rests (state old.disk) (state new.disk)))
