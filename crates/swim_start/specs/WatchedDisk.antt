-- A disk that is written only while its watch says that it is this process's own.
use Rattle.std.specs.Prelude.{◌≡◌, ◌⊎◌, ℕ, ◌+◌, List, [], ◌∷◌, ◌++◌, length, Bool, true, false}
use Rattle.std.specs.Prelude.{Result, Err}
use Rattle.swim_disk.specs.Disk.{DiskState, Counts}
use Rattle.swim_disk.specs.Fault.{fault_state}
use Rattle.swim_disk.specs.declared.disk.DiskFault.{DiskFault}
use Rattle.swim_disk.specs.declared.disk.DiskFault.TheVariants.{System}
use Rattle.swim_start.specs.declared.watched_disk.WatchedDisk.{WatchedDisk}

-- the disk below
abbrev pub disk_below : {D W : Type 0} → WatchedDisk D W → D
disk_below disk = disk.inner

-- what tells whether it may be written
abbrev pub watch_of : {D W : Type 0} → WatchedDisk D W → W
watch_of disk = disk.watch

-- whether the watch has said no
abbrev pub is_lost_in : {D W : Type 0} → WatchedDisk D W → Bool
is_lost_in disk = disk.is_lost

-- how many calls were refused
abbrev pub refusals_of : {D W : Type 0} → WatchedDisk D W → ℕ
refusals_of disk = length disk.refused

-- what a watched disk tells, by what the disk below tells: a refused call is one that failed
abbrev pub watched_state : {D W : Type 0} → (D → DiskState) → WatchedDisk D W → DiskState
watched_state state disk =
    fault_state (state disk.inner) (length disk.refused)
    ((state disk.inner).calls + length disk.refused)

-- a call that the disk below got once, and whose answer is its answer
pub record IsPassedOn {D W T : Type 0} (state : D → DiskState) (result : Result T DiskFault)
    (old new : WatchedDisk D W) : Type 0 where
  pub once : (state (disk_below new)).calls ≡ (state (disk_below old)).calls + 1
  pub counts : Counts result (state (disk_below old)) (state (disk_below new))
  pub none : refusals_of new ≡ refusals_of old
  pub same : is_lost_in new ≡ is_lost_in old

-- a call before which the watch was asked, and said yes, as it always had
pub record IsAdmitted {D W : Type 0} (asked : W → List Bool) (old new : WatchedDisk D W)
    : Type 0 where
  pub own : is_lost_in old ≡ false
  pub yes : asked (watch_of new) ≡ asked (watch_of old) ++ true ∷ []

-- a call that failed since the watch says no, or has said so: the disk below did not get it
pub record IsRefused {D W T : Type 0} (asked : W → List Bool) (result : Result T DiskFault)
    (old new : WatchedDisk D W) : Type 0 where
  pub fault : result ≡ Err System
  pub why : (is_lost_in old ≡ true) ⊎ (asked (watch_of new) ≡ asked (watch_of old) ++ false ∷ [])
  pub lost : is_lost_in new ≡ true
  pub below : disk_below new ≡ disk_below old
  pub once : refusals_of new ≡ refusals_of old + 1

-- what becomes of a write or a sync
abbrev pub PassesIfOwn : {D W T : Type 0} → (W → List Bool) → (D → DiskState) → Result T DiskFault
    → WatchedDisk D W → WatchedDisk D W
    → Type 0
PassesIfOwn asked state result old new =
    (IsAdmitted asked old new × IsPassedOn state result old new) ⊎ IsRefused asked result old new
