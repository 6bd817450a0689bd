-- The lives of a script, as what plays it keeps them.
use Rattle.std.specs.Prelude.{◌≡◌, Bool, true, false, List, [], All, Option, Some, None, Result, Ok}
use Rattle.std.specs.Prelude.{Err, length}
use Rattle.swim_member.specs.declared.event.Event.{Event}
use Rattle.swim_state.specs.declared.owner.Owner.{Owner}
use Rattle.swim_node.specs.declared.fault.ApplyFault.{ApplyFault}
use Rattle.swim_node.specs.declared.fault.ApplyFault.TheVariants.{NoMemory, EraFull, OutOfTurn}
use Rattle.swim_node.specs.Lives.{Life, AreLives}
use Rattle.swim_node.specs.Node.{owner_of}
use Rattle.swim_play.specs.declared.session.Run.{Run}
use Rattle.swim_play.specs.declared.session.SessionStage.{SessionStage}
use Rattle.swim_play.specs.declared.session.SessionStage.TheVariants.{Bare, Idle, Open}
use Rattle.swim_play.specs.Life.{PlayDisk, disk_state, IsOfOne, IsOnto, AreOnOneDisk}
use Rattle.swim_play.specs.Play.{Playing, ScriptedLife, asked_of, IsRun, Takes}

-- the disk that there is at a stage
abbrev pub disk_in : SessionStage → Option PlayDisk
disk_in Bare = None
disk_in (Idle disk) = Some disk
disk_in (Open life) = Some life.left

-- the life that is open at a stage, as the script asks for it
abbrev pub life_in : SessionStage → Option ScriptedLife
life_in Bare = None
life_in (Idle disk) = None
life_in (Open life) = Some (asked_of life)

-- the events of the era that is going on
abbrev pub events_in : Option ScriptedLife → List Event
events_in None = []
events_in (Some life) = life.events

-- these lives are of this owner on one disk, and what the last of them left became this one
pub record Leads (owner : Owner) (lives : List (Life PlayDisk)) (disk : PlayDisk) : Type 0 where
  pub lives_are : AreLives disk_state owner lives
  pub mine : All IsOfOne lives
  pub onto : IsOnto disk_state owner lives disk

-- what the lives since the last other disk or owner are to what there is now
abbrev pub Stands : Owner → Bool → List (Life PlayDisk) → SessionStage → Type 0
Stands owner apart lives Bare = lives ≡ []
Stands owner true lives (Idle disk) = AreOnOneDisk lives
Stands owner false lives (Idle disk) = Leads owner lives disk
Stands owner apart lives (Open life) = Leads (owner_of life.settings) lives life.opened
    × (apart ≡ false → owner ≡ owner_of life.settings)

-- what holds between two lines of a script: the ended runs
-- are runs, and the lives since then are lives on one disk
pub record IsSession (owner : Owner) (apart : Bool) (runs : List Run) (lives : List (Life PlayDisk))
    (stage : SessionStage) : Type 0 where
  pub ended : All IsRun runs
  pub now : Stands owner apart lives stage

-- what comes of an event that the open life is given,
-- by the answer; the only caller is never out of turn
abbrev pub IsAnswered : Event → Option ScriptedLife → Playing → Playing
    → Result (Unit {0}) ApplyFault
    → Type 0
IsAnswered event None p q answer = ⊥
IsAnswered event (Some life) p q (Ok done) = Takes event life p q
IsAnswered event (Some life) p q (Err EraFull) = (length life.events ≡ life.limit) × (q ≡ p)
IsAnswered event (Some life) p q (Err NoMemory) = q ≡ p
IsAnswered event (Some life) p q (Err OutOfTurn) = ⊥
