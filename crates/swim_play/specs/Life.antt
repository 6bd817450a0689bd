-- Lives on disks in memory that fail by a plan.
use Rattle.std.specs.Prelude.{◌≡◌, ℕ, ◌<◌, List, [], ◌∷◌, ◌++◌, length, All}
use Rattle.swim_disk.specs.Disk.{DiskState}
use Rattle.swim_disk.specs.MemDisk as memory
use Rattle.swim_disk.specs.Fault as fault
use Rattle.swim_disk.specs.declared.fault.FaultDisk.{FaultDisk}
use Rattle.swim_disk.specs.declared.mem.MemDisk.{MemDisk}
use Rattle.swim_state.specs.declared.owner.Owner.{Owner}
use Rattle.swim_state.specs.Held.{Held, Through, Covers}
use Rattle.swim_member.specs.declared.event.Event.{Event}
use Rattle.swim_node.specs.declared.entry.Entry.{Entry}
use Rattle.swim_node.specs.declared.fault.ApplyFault.{ApplyFault}
use Rattle.swim_node.specs.declared.fault.ApplyFault.TheVariants.{NoMemory, EraFull, OutOfTurn}
use Rattle.swim_node.specs.Lives.{Era, Life, IsLiving, Reached, ceiling_of, AreLives}

-- the disk of a script, and what it tells
abbrev pub PlayDisk : Type 0
PlayDisk = FaultDisk MemDisk

-- what contracts see of a player's disk, as the disk model has it
abbrev pub disk_state : PlayDisk → DiskState
disk_state disk = fault.state_of memory.state_of disk

-- the entry is of the one caller that a script has
abbrev pub IsMine : Entry → Type 0
IsMine e = e.tag.caller ≡ 0

-- every call of this era is of the player's one caller
abbrev pub AreMine : Era → Type 0
AreMine era = All IsMine era.entries

-- all calls of a life are of one caller
pub record IsOfOne (life : Life PlayDisk) : Type 0 where
  pub ended : All AreMine life.eras
  pub last : All IsMine life.entries

-- what holds of a life at all times beside what its node keeps: it goes
-- on, all its calls are of one caller, and its eras have its limit
pub record IsOngoing (owner : Owner) (life : Life PlayDisk) : Type 0 where
  pub living : IsLiving disk_state owner life
  pub mine : IsOfOne life
  pub room : life.base.limit ≡ life.limit

-- no moment of a refused opening leaves less than was held before it
abbrev pub Spares : Owner → PlayDisk → PlayDisk → Type 0
Spares owner old new = (b : ℕ)
    → Held owner (disk_state old) b
    → Through (Covers owner b) (disk_state old) (disk_state new)

-- one entry of this event came
pub record Adds (old new : Life PlayDisk) (event : Event) : Type 0 where
  pub entry : Entry
  pub happened : entry.event ≡ event
  pub entries : new ≡ record old { entries = old.entries ++ entry ∷ []; left = new.left }
  pub room : length old.entries < old.limit

-- when each refusal of an event comes; the only caller is never out of turn
abbrev pub IsDeclined : Life PlayDisk → ApplyFault → Type 0
IsDeclined life EraFull = length life.entries ≡ life.limit
IsDeclined life NoMemory = length life.entries < life.limit
IsDeclined life OutOfTurn = ⊥

-- the era that is going on
abbrev pub era_now : Life PlayDisk → Era
era_now life = record { base = life.base; entries = life.entries }

-- the last of these lives, if there is one, left what became this disk
abbrev pub IsOnto : {D : Type 0} → (D → DiskState) → Owner → List (Life D) → D → Type 0
IsOnto state owner [] disk = Unit {0}
IsOnto {D} state owner (life ∷ []) disk = Reached D state owner (ceiling_of life) life.left disk
IsOnto state owner (life ∷ next ∷ lives) disk = IsOnto state owner (next ∷ lives) disk

-- lives of one owner on one disk, one after another, each with all calls of one caller
pub record AreOnOneDisk (lives : List (Life PlayDisk)) : Type 0 where
  pub owner : Owner
  pub lives_are : AreLives disk_state owner lives
  pub mine : All IsOfOne lives
