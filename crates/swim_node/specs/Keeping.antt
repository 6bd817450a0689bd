-- What a save of the peers does to a store, where no event wants a number.
use Rattle.std.specs.Prelude.{◌≡◌, ◌≢◌, ◌⊎◌, ◌↔◌, ℕ, ◌+◌, ◌<◌, true, false, List}
use Rattle.std.specs.Prelude.{Result, OnOk, OnErr, IsErrOf}
use Rattle.swim_disk.specs.Disk.{DiskState as DiskState, Rests}
use Rattle.swim_state.specs.Held.{Held}
use Rattle.swim_state.specs.Raising.{Raises, Tries}
use Rattle.swim_state.specs.Store.{StoreView}
use Rattle.swim_state.specs.declared.fault.SaveFault.{SaveFault}
use Rattle.swim_state.specs.declared.fault.SaveFault.TheVariants.{Exhausted}
use Rattle.swim_wire.specs.declared.update.TheConstants.{NUMBER_MAX}

-- the ceiling is raised by one, with these peers, where
-- there is a number above it, and else nothing is done
pub record RaisesByOne {D : Type 0} (keeps : Type 0) (state : D → DiskState) (peers : List ℕ)
    (result : Result (Unit {0}) SaveFault) (old new : StoreView D) : Type 0 where
  pub full : IsErrOf result Exhausted ↔ (old.ceiling ≡ NUMBER_MAX)
  pub untouched : IsErrOf result Exhausted → new ≡ old
  pub held : keeps → Held old.owner (state old.disk) old.ceiling
  pub raises : old.ceiling ≢ NUMBER_MAX
      → Raises keeps state (old.ceiling + 1) 0 peers result old new

-- These peers are saved, with a ceiling that is greater by one, or by more where a broken store
-- finds that an earlier save was done after all. Exhausted comes of the greatest number, and then
-- nothing changes, or of a broken store that is whole again, with other peers than these.
pub record KeepsGiven {D : Type 0} (keeps : Type 0) (state : D → DiskState) (peers : List ℕ)
    (result : Result (Unit {0}) SaveFault) (old new : StoreView D) : Type 0 where
  pub tries : Tries keeps state result old new
  pub ok : OnOk result
      (old.ceiling < new.ceiling × new.peers ≡ peers × new.broken ≡ false)
  pub exact : OnOk result (old.broken ≡ false → new.ceiling ≡ old.ceiling + 1)
  pub exhausted : old.ceiling ≡ NUMBER_MAX → IsErrOf result Exhausted
  pub untouched : old.ceiling ≡ NUMBER_MAX → new ≡ old
  pub full : IsErrOf result Exhausted → new.ceiling ≡ NUMBER_MAX
  pub cases : IsErrOf result Exhausted → (old.ceiling ≡ NUMBER_MAX)
      ⊎ (old.broken ≡ true × new.broken ≡ false × new.peers ≢ peers)
  pub unwritten : keeps → IsErrOf result Exhausted → Rests (state old.disk) (state new.disk)
  pub ready : OnErr result (IsErrOf result Exhausted ⊎ (new.broken ≡ true))
