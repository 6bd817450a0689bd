-- What a script asks for: which disks there are, which members
-- are opened, which events they get, and how they end.
use Rattle.std.specs.Prelude.{◌≡◌, ◌⊎◌, ℕ, ◌+◌, ◌-◌, ◌*◌, ◌^◌, ◌<◌, ◌≤◌, Bool, true, false, List}
use Rattle.std.specs.Prelude.{[], ◌∷◌, ◌++◌, length, map, All, Option, Some, None, Result, OnOk}
use Rattle.std.specs.Prelude.{OnErr, IfErr}
use Rattle.swim_disk.specs.Disk.{IsSettled, Rests}
use Rattle.swim_disk.specs.Choice.{left_by}
use Rattle.swim_disk.specs.MemDisk.{disk_of}
use Rattle.swim_disk.specs.Fault.{inner_of}
use Rattle.swim_disk.specs.declared.mem.Choice.{Choice}
use Rattle.swim_state.specs.File.{IsSound, floor}
use Rattle.swim_state.specs.Recovery.{fault_of as shown}
use Rattle.swim_state.specs.declared.owner.Owner.{Owner}
use Rattle.swim_state.specs.declared.fault.InitFault.{InitFault}
use Rattle.swim_state.specs.declared.fault.InitFault.TheVariants as init
use Rattle.swim_state.specs.declared.fault.RecoverFault.TheVariants as recover
use Rattle.swim_member.specs.declared.event.Event.{Event}
use Rattle.swim_member.specs.declared.settings.Settings.{Settings}
use Rattle.swim_member.specs.Checks.{AreSound, fault_of}
use Rattle.swim_node.specs.declared.opening.TheConstants.{LIMIT_MAX}
use Rattle.swim_node.specs.declared.entry.Entry.{Entry}
use Rattle.swim_node.specs.declared.fault.OpenFault.TheVariants as node
use Rattle.swim_node.specs.Lives.{Era, Life, AreRising}
use Rattle.swim_node.specs.Node.{owner_of}
use Rattle.swim_script.specs.Patches.{IsPatched}
use Rattle.swim_script.specs.declared.command.Command.{Command}
use Rattle.swim_script.specs.declared.command.Command.TheVariants.{Group, Me, Set, Start, Init}
use Rattle.swim_script.specs.declared.command.Command.TheVariants.{Open, Happen, Plan, Kill, Crash}
use Rattle.swim_script.specs.declared.command.Command.TheVariants.{Overwrite, Slots, Rebase}
use Rattle.swim_script.specs.declared.command.Command.TheVariants.{KeepPeers, Peers}
use Rattle.swim_script.specs.declared.command.Failure.{Failure}
use Rattle.swim_script.specs.declared.command.Failure.TheVariants as failure
use Rattle.swim_script.specs.declared.command.Setting.{Setting}
use Rattle.swim_script.specs.declared.command.Setting.TheVariants as setting
use Rattle.swim_play.specs.declared.setup.Setup.{Setup}
use Rattle.swim_play.specs.declared.session.OpeningOutcome.{OpeningOutcome}
use Rattle.swim_play.specs.declared.session.OpeningOutcome.TheVariants.{Begun, Refused}
use Rattle.swim_play.specs.declared.session.OpeningRefusal.{OpeningRefusal}
use Rattle.swim_play.specs.declared.session.OpeningRefusal.TheVariants as refusal
use Rattle.swim_play.specs.declared.session.Run.{Run}
use Rattle.swim_play.specs.Life.{PlayDisk, disk_state, AreOnOneDisk}
use Rattle.swim_wire.specs.declared.update.TheConstants.{NUMBER_MAX}

-- a life, as a script asks for it: how and on which disk it is opened, with which number it
-- begins, the events of its eras that a rebase ended and of its last one, and its disk now
pub record ScriptedLife : Type 0 where
  pub settings : Settings
  pub limit : ℕ
  pub opened : PlayDisk
  pub first : ℕ
  pub eras : List (List Event)
  pub events : List Event
  pub left : PlayDisk

-- the setup of the next opening, the disk that there is, whether a line
-- made or overwrote the disk or named an owner since the last opening,
-- the lives before that, those that ended since, and the open one
pub record Playing : Type 0 where
  pub setup : Setup
  pub disk : Option PlayDisk
  pub apart : Bool
  pub runs : List (List ScriptedLife)
  pub lives : List ScriptedLife
  pub life : Option ScriptedLife

-- ---- the setup

-- group 7, 10.0.0.1:7000, and eras of 4,096 entries
abbrev pub first_setup : Setup
first_setup = record {
  settings = record {
    group = 7;
    me = 0x0a000001 * 65536 + 7000;
    lambda = 2;
    period = 4;
    direct = 2;
    suspect = 8;
    forget = 40;
    helpers = 2;
    block = 1;
    rules = 1;
  };
  limit = 4096;
}

-- the setup after a line `set`, which changes one setting, the limit included
abbrev pub with_setting : Setup → Setting → ℕ → Setup
with_setting s setting.Lambda n = record s { settings = record s.settings { lambda = n } }
with_setting s setting.Period n = record s { settings = record s.settings { period = n } }
with_setting s setting.Direct n = record s { settings = record s.settings { direct = n } }
with_setting s setting.Suspect n = record s { settings = record s.settings { suspect = n } }
with_setting s setting.Forget n = record s { settings = record s.settings { forget = n } }
with_setting s setting.Helpers n = record s { settings = record s.settings { helpers = n } }
with_setting s setting.Limit n = record s { limit = n }
with_setting s setting.Block n = record s { settings = record s.settings { block = n } }
with_setting s setting.Rules n = record s { settings = record s.settings { rules = n } }

-- another group or another member is named
abbrev pub with_settings : Settings → Playing → Playing
with_settings settings p = record p { setup = record p.setup { settings = settings }; apart = true }

-- the settings are sound, and an era has 1 to 65,536 entries
pub record CanOpen (s : Setup) : Type 0 where
  pub sound : AreSound s.settings
  pub least : 1 ≤ s.limit
  pub most : s.limit ≤ LIMIT_MAX

-- ---- the disk

-- the disk becomes another one, of which this holds
abbrev pub Becomes : (PlayDisk → Type 0) → Playing → Playing → Type 0
Becomes Is p q = (disk : PlayDisk) × Is disk × (q ≡ record p { disk = Some disk })

-- whatever a crash now may leave is a state file with this floor
abbrev pub HasFloor : Owner → ℕ → PlayDisk → Type 0
HasFloor owner b disk = (c : List ℕ) → (disk_state disk).images c → IsSound owner c × (floor c ≡ b)

-- when making a state file on a new disk is refused
abbrev pub IsUnmade : ℕ → PlayDisk → InitFault → Type 0
IsUnmade ceiling disk init.Range = (NUMBER_MAX < ceiling) × ((disk_state disk).content ≡ [])
IsUnmade ceiling disk init.NotEmpty = ⊥
IsUnmade ceiling disk init.Device = 0 < (disk_state disk).failures

-- a new disk, and what came of making a state file with this ceiling there
pub record IsMade (owner : Owner) (ceiling : ℕ) (disk : PlayDisk)
    (answer : Result (Unit {0}) InitFault) : Type 0 where
  pub ok : OnOk answer (HasFloor owner ceiling disk)
  pub err : IfErr answer (λ fault. IsUnmade ceiling disk fault)

-- there is a new disk
abbrev pub with_disk : PlayDisk → Playing → Playing
with_disk disk p = record p { disk = Some disk; apart = true }

-- what a crash with this choice leaves of a disk: one
-- of its images, and a later crash leaves the same
pub record IsCrashed (choice : Choice) (old new : PlayDisk) : Type 0 where
  pub chosen : (disk_state new).content ≡ left_by choice (disk_of (inner_of old))
  pub image : (disk_state old).images (disk_state new).content
  pub settled : IsSettled (disk_state new)

-- ---- lives

-- these lives as a run of their own, unless there are none
abbrev pub and_run : {A : Type 0} → List (List A) → List A → List (List A)
and_run runs [] = runs
and_run runs (life ∷ lives) = runs ++ (life ∷ lives) ∷ []

-- a list that is dropped if a line parted the runs
abbrev pub unless : {A : Type 0} → Bool → List A → List A
unless true xs = []
unless false xs = xs

-- the ended runs: if a line parted the runs, the lives before it are one more
abbrev pub runs_before : {A : Type 0} → Bool → List (List A) → List A → List (List A)
runs_before true runs lives = and_run runs lives
runs_before false runs lives = runs

-- a life is opened with this number on the old disk, which has become the
-- new one; it begins a run where the disk or the owner is another one
abbrev pub with_life : PlayDisk → ℕ → PlayDisk → Playing → Playing
with_life old first new p = record p {
  disk = Some new;
  apart = false;
  runs = runs_before p.apart p.runs p.lives;
  lives = unless p.apart p.lives;
  life = Some (record {
    settings = p.setup.settings;
    limit = p.setup.limit;
    opened = old;
    first = first;
    eras = [];
    events = [];
    left = new;
  });
}

-- a life begins with this number, the next one of a disk that shows no fault
pub record Begins (old : PlayDisk) (first : ℕ) (p q : Playing) : Type 0 where
  pub can : CanOpen p.setup
  pub sound : shown (owner_of p.setup.settings) (disk_state old).content ≡ None
  pub next : first ≡ floor (disk_state old).content + 1
  pub disk : PlayDisk
  pub is : q ≡ with_life old first disk p

-- when an opening is refused, and what that leaves of
-- the disk; where memory is wanting the script ends
abbrev pub IsRefused : Setup → PlayDisk → OpeningRefusal → PlayDisk → Type 0
IsRefused s old (refusal.Settings fault) new = (fault_of s.settings ≡ Some fault) × (new ≡ old)
IsRefused s old (refusal.Open node.Limit) new =
    ((s.limit ≡ 0) ⊎ (LIMIT_MAX < s.limit)) × (new ≡ old)
IsRefused s old (refusal.Open node.NoMemory) new = ⊥
IsRefused s old (refusal.Open (node.Refused recover.Device)) new =
    (disk_state old).failures < (disk_state new).failures
IsRefused s old (refusal.Open (node.Refused fault)) new =
    (shown (owner_of s.settings) (disk_state old).content ≡ Some fault)
    × Rests (disk_state old) (disk_state new)

-- what may refuse an opening after lives of this owner on this
-- disk: the setup, a failed call, or that no number is left
abbrev pub ComesAfterLives : OpeningRefusal → Type 0
ComesAfterLives (refusal.Settings fault) = Unit {0}
ComesAfterLives (refusal.Open node.Limit) = Unit {0}
ComesAfterLives (refusal.Open node.NoMemory) = Unit {0}
ComesAfterLives (refusal.Open (node.Refused recover.Device)) = Unit {0}
ComesAfterLives (refusal.Open (node.Refused recover.Exhausted)) = Unit {0}
ComesAfterLives (refusal.Open (node.Refused fault)) = ⊥

-- an opening on this disk is refused
pub record Refuses (old : PlayDisk) (refusal : OpeningRefusal) (p q : Playing) : Type 0 where
  pub disk : PlayDisk
  pub cause : IsRefused p.setup old refusal disk
  pub lived : p.apart ≡ false → 0 < length p.lives → ComesAfterLives refusal
  pub is : q ≡ record p { disk = Some disk }

-- what comes of an opening on this disk
abbrev pub IsOpening : PlayDisk → OpeningOutcome → Playing → Playing → Type 0
IsOpening disk (Begun first) p q = Begins disk first p q
IsOpening disk (Refused refusal) p q = Refuses disk refusal p q

-- a life is opened on this disk, or refused
abbrev pub Opens : PlayDisk → Playing → Playing → Type 0
Opens disk p q = (opening : OpeningOutcome) × IsOpening disk opening p q

-- there is a new disk with a state file below this number, and a life begins
-- with it, or is refused; where there is no state file nothing is opened
pub record Starts (first : ℕ) (p q : Playing) : Type 0 where
  pub disk : PlayDisk
  pub answer : Result (Unit {0}) InitFault
  pub is_made : IsMade (owner_of p.setup.settings) (first - 1) disk answer
  pub ok : OnOk answer (Opens disk (with_disk disk p) q)
  pub err : OnErr answer (q ≡ with_disk disk p)

-- the open life has one event more, and its disk may have become another one
pub record Takes (event : Event) (life : ScriptedLife) (p q : Playing) : Type 0 where
  pub room : length life.events < life.limit
  pub disk : PlayDisk
  pub is : q ≡ record p {
    disk = Some disk;
    life = Some (record life { events = life.events ++ event ∷ []; left = disk });
  }

-- an event comes; without an open member nothing happens, and a full era takes no more
abbrev pub Happens : Event → Option ScriptedLife → Playing → Playing → Type 0
Happens event None p q = q ≡ p
Happens event (Some life) p q = Takes event life p q ⊎ ((length life.events ≡ life.limit) × (q ≡ p))

-- an era begins
abbrev pub with_new_era : Option ScriptedLife → Option ScriptedLife
with_new_era None = None
with_new_era (Some life) = Some (record life { eras = life.eras ++ life.events ∷ []; events = [] })

-- the disk of the open life is another one
abbrev pub with_left : PlayDisk → Option ScriptedLife → Option ScriptedLife
with_left disk None = None
with_left disk (Some life) = Some (record life { left = disk })

-- the open member writes its state file: its disk may have become another one
abbrev pub WritesState : Playing → Playing → Type 0
WritesState p q = (disk : PlayDisk)
    × (q ≡ record p { disk = Some disk; life = with_left disk p.life })

-- the open life, if there is one, has ended; its disk stays
abbrev pub ended_with : Option ScriptedLife → Playing → Playing
ended_with None p = p
ended_with (Some life) p = record p { lives = p.lives ++ life ∷ []; life = None }

-- the open life has ended
abbrev pub with_life_ended : Playing → Playing
with_life_ended p = ended_with p.life p

-- ---- lines

-- with an open member nothing happens
abbrev pub IfClosed : Option ScriptedLife → Playing → Playing → Type 0 → Type 0
IfClosed None p q done = done
IfClosed (Some life) p q done = q ≡ p

-- without an open member nothing happens
abbrev pub IfOpen : Option ScriptedLife → Playing → Playing → Type 0 → Type 0
IfOpen None p q done = q ≡ p
IfOpen (Some life) p q done = done

-- without a disk nothing happens
abbrev pub IfDisk : Option PlayDisk → Playing → Playing → (PlayDisk → Type 0) → Type 0
IfDisk None p q done = q ≡ p
IfDisk (Some disk) p q done = done disk

-- what a line may make of what plays
abbrev pub Does : Playing → Command → Playing → Type 0
Does p (Group group) q = q ≡ with_settings (record p.setup.settings { group = group }) p
Does p (Me me) q = q ≡ with_settings (record p.setup.settings { me = me }) p
Does p (Set setting n) q = q ≡ record p { setup = with_setting p.setup setting n }
Does p (Start first) q = IfClosed p.life p q (Starts first.value p q)
Does p (Init ceiling) q =
    IfClosed p.life p q ((answer : Result (Unit {0}) InitFault)
    × Becomes (λ disk. IsMade (owner_of p.setup.settings) ceiling disk answer)
    (record p { apart = true }) q)
Does p Open q = IfClosed p.life p q (IfDisk p.disk p q (λ disk. Opens disk p q))
Does p (Happen event) q = Happens event p.life p q
Does p (Plan failure) q = q ≡ p
Does p Kill q = q ≡ with_life_ended p
Does p (Crash choice) q =
    IfDisk p.disk p q (λ disk. Becomes (IsCrashed choice disk) (with_life_ended p) q)
Does p (Overwrite patch) q =
    IfClosed p.life p q (IfDisk p.disk p q (λ disk.
    Becomes (λ new. IsPatched patch.at patch.bytes.items (inner_of disk) (inner_of new))
    (record p { apart = true }) q))
Does p Slots q = q ≡ p
Does p Rebase q = q ≡ record p { life = with_new_era p.life }
Does p KeepPeers q =
    IfOpen p.life p q (WritesState (record p { life = with_new_era p.life }) q)
Does p Peers q = q ≡ p

-- ---- the link

-- what plays, and which send from now on the link is to lose, if any
pub record Scene : Type 0 where
  pub playing : Playing
  pub loses : Option ℕ

-- the send that is to be lost, after a line that plans this
abbrev pub lost_by : Failure → Option ℕ → Option ℕ
lost_by (failure.Send k) planned = Some k
lost_by _ planned = planned

-- after a crash of what there is, nothing is planned to be lost
abbrev pub kept_by : Option PlayDisk → Option ℕ → Option ℕ
kept_by None planned = planned
kept_by (Some disk) planned = None

-- what a line makes of the plan of the link: the sends of an
-- event may come to it, and no other line but these changes it
abbrev pub IsPlanned : Scene → Command → Option ℕ → Type 0
IsPlanned p (Plan failure) planned = planned ≡ lost_by failure p.loses
IsPlanned p (Crash choice) planned = planned ≡ kept_by p.playing.disk p.loses
IsPlanned p (Happen event) planned = p.playing.life ≡ None → planned ≡ p.loses
IsPlanned p command planned = planned ≡ p.loses

-- what a line may make of it
pub record Shows (p : Scene) (command : Command) (q : Scene) : Type 0 where
  pub does : Does p.playing command q.playing
  pub planned : IsPlanned p command q.loses

-- what these lines, in order, may make of it
abbrev pub Plays : Scene → List Command → Scene → Type 0
Plays p [] q = q ≡ p
Plays p (command ∷ commands) q = (r : Scene) × Shows p command r × Plays r commands q

-- what there is before the first line: no disk, no life, and a link that loses nothing
abbrev pub first_scene : Scene
first_scene = record {
  playing = record {
    setup = first_setup;
    disk = None;
    apart = false;
    runs = [];
    lives = [];
    life = None;
  };
  loses = None;
}

-- all lives, an open one among them; those of one disk and owner are together
abbrev pub all_of : Playing → List (List ScriptedLife)
all_of p = and_run (with_life_ended p).runs (with_life_ended p).lives

-- the event of one call
abbrev pub event_of : Entry → Event
event_of e = e.event

-- the events of an era, in order
abbrev pub events_of : Era → List Event
events_of era = map event_of era.entries

-- what was asked for where this life was lived
abbrev pub asked_of : Life PlayDisk → ScriptedLife
asked_of life = record {
  settings = life.settings;
  limit = life.limit;
  opened = life.opened;
  first = life.first;
  eras = map events_of life.eras;
  events = map event_of life.entries;
  left = life.left;
}

-- the lives of a run, as the script asks for them
abbrev pub run_of : Run → List ScriptedLife
run_of run = map asked_of run.lives.items

-- the lives of a run are lives of one owner on one disk
abbrev pub IsRun : Run → Type 0
IsRun run = AreOnOneDisk run.lives.items

-- every own number of a later life of a run is above every own number of an earlier one
abbrev pub IsRising : Run → Type 0
IsRising run = AreRising run.lives.items

-- these runs were played by these lines: their lives are those that the lines ask for,
-- those of each run are lives of one owner on one disk, and so own numbers rise over them
pub record ArePlayed (commands : List Command) (runs : List Run) : Type 0 where
  pub end : Scene
  pub plays : Plays first_scene commands end
  pub asked : map run_of runs ≡ all_of end.playing
  pub lived : All IsRun runs
  pub rising : All IsRising runs
