-- What an opening gives.
use Rattle.std.specs.Prelude.{◌≡◌, ◌↔◌, ◌⊎◌, ◌<◌, ℕ, [], ⊤, Some, None}
use Rattle.swim_disk.specs.Disk.{IsSettled}
use Rattle.swim_disk.specs.File.{FileView, Finds, HasAll, file_state}
use Rattle.swim_member.specs.Checks.{fault_of}
use Rattle.swim_member.specs.declared.settings.Settings.{Settings}
use Rattle.swim_node.specs.Lives.{MayEnd}
use Rattle.swim_node.specs.Node.{NodeView, owner_of}
use Rattle.swim_node.specs.Opening.{BeginsLife, OpensFile}
use Rattle.swim_node.specs.declared.fault.OpenFault.TheVariants.{Limit}
use Rattle.swim_node.specs.declared.opening.TheConstants.{LIMIT_MAX}
use Rattle.swim_library.specs.Outbox.{waiting_in}
use Rattle.swim_library.specs.declared.refusal.Refusal.{Refusal}
use Rattle.swim_library.specs.declared.refusal.Refusal.TheVariants as why
use Rattle.swim_library.specs.Shapes.{settings_of}
use Rattle.swim_wire.specs.Numbers.{IsNoMembers}
use Rattle.swim_library.specs.declared.shapes.SwimSettings.{SwimSettings}
use Rattle.swim_library.specs.declared.running.Running.{Running}

-- What a load found: as many bytes as the system said that there are, each as a read of it gave
-- it, and a crash leaves them.
pub record IsLoaded (file : FileView) : Type 0 where
  pub found : Finds file
  pub has_all : HasAll file
  pub settled : IsSettled (file_state file)

-- A life has begun on what the file had when it was loaded. Its first number is above all that the
-- life before said, whatever became of the file since: kills, crashes, calls cut short, refused
-- starts. The node's file is that one, but for what the opening wrote. It may end as it is.
pub record Begins (settings : Settings) (limit : ℕ) (node : NodeView FileView) : Type 0 where
  pub opened : FileView
  pub loaded : IsLoaded opened
  pub file : OpensFile ⊤ (owner_of settings) (file_state opened) (file_state node.disk)
  pub life : BeginsLife ⊤ file_state settings limit opened node
  pub ends : MayEnd file_state node

-- a member whose life has begun so, of which nothing waits, that has told of nobody and was told of
-- no seeds
pub record OpensOn (settings : Settings) (limit : ℕ) (running : Running) : Type 0 where
  pub begins : Begins settings limit running.node
  pub waits : waiting_in running.outbox ≡ []
  pub told : running.told.rows ≡ []
  pub untold : running.told.changes.items ≡ []
  pub seeks : running.seeking.joiner ≡ None

-- What a refusal says of the file: a limit is refused where it is out of its range, and no other
-- one. Which file the descriptor is no definition can say, so nothing is said of one that is
-- refused, or of want of memory.
abbrev pub RefusesFile : ℕ → Refusal → Type 0
RefusesFile limit (why.Opening reason) = (reason ≡ Limit) ↔ ((limit ≡ 0) ⊎ (LIMIT_MAX < limit))
RefusesFile limit why.NoMemory = ⊤
RefusesFile limit why.File = ⊤
RefusesFile limit _ = ⊥

-- What a refusal of an opening says: of what C named the first fault, or else what it says of the
-- file. No opening is refused otherwise.
abbrev pub RefusesOpening : SwimSettings → ℕ → Refusal → Type 0
RefusesOpening given limit why.NoEndpoint = given.port ≡ 0
RefusesOpening given limit why.Address = IsNoMembers given.address
RefusesOpening given limit (why.Settings fault) = fault_of (settings_of given) ≡ Some fault
RefusesOpening given limit refusal = RefusesFile limit refusal
