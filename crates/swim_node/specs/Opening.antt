-- What an opening of a node does.
use Rattle.std.specs.Prelude.{◌≡◌, ◌≢◌, ◌↔◌, ◌⊎◌, ℕ, ◌+◌, ◌<◌, ◌≤◌, false, [], None}
use Rattle.swim_disk.specs.Disk.{DiskState as DiskState, Rests}
use Rattle.swim_member.specs.declared.settings.Settings.{Settings}
use Rattle.swim_state.specs.Alone.{IsBeside, IsEarlier, LeavesAlone, target_in}
use Rattle.swim_state.specs.File.{floor, floor_peers, version_in}
use Rattle.swim_state.specs.Held.{Covers, Held, HeldSince, Through}
use Rattle.swim_state.specs.Recovery.{fault_of}
use Rattle.swim_state.specs.declared.fault.RecoverFault.TheVariants.{Device}
use Rattle.swim_state.specs.declared.layout.Version.TheVariants.{Two}
use Rattle.swim_state.specs.declared.owner.Owner.{Owner}
use Rattle.swim_node.specs.History.{fresh_base}
use Rattle.swim_node.specs.Lives.{BeginsAbove, IsLiving, Unopened, life_of}
use Rattle.swim_node.specs.Node.{NodeView, owner_of}
use Rattle.swim_node.specs.declared.fault.OpenFault.{OpenFault}
use Rattle.swim_node.specs.declared.fault.OpenFault.TheVariants as opening
use Rattle.swim_node.specs.declared.opening.TheConstants.{LIMIT_MAX}
use Rattle.swim_wire.specs.declared.update.TheConstants.{NUMBER_MAX}

-- What an opening does to the disk with the file of this owner, whatever it answers. If it keeps
-- the model, no moment leaves less than what was held before. Head and slots of version 1 stay:
-- before those of version 2 only the mark is written. Of a file of version 2 it is just one slot.
pub record OpensFile (keeps : Type 0) (owner : Owner) (old new : DiskState) : Type 0 where
  pub name : new.name ≡ old.name
  pub moments : keeps → (b : ℕ) → Held owner old b → Through (Covers owner b) old new
  pub since : keeps → (b : ℕ) → Held owner old b → HeldSince owner new old.clock b
  pub earlier : keeps → LeavesAlone IsEarlier old new
  pub beside : keeps → version_in old.content ≡ Two
      → LeavesAlone (IsBeside (target_in old.content)) old new

-- A life begins on this disk, with an era that has no entry. If the disk keeps the model, the first
-- number is the next one of the file, above all that was held, and the peers there are kept.
pub record BeginsLife {D : Type 0} (keeps : Type 0) (state : D → DiskState) (settings : Settings)
    (limit : ℕ) (disk : D) (node : NodeView D) : Type 0 where
  pub entries : node.entries ≡ []
  pub base : node.base ≡ fresh_base settings node.first limit
  pub bounds : (1 ≤ node.first) × (node.first ≤ NUMBER_MAX)
  pub owner : node.owner ≡ owner_of settings
  pub whole : node.broken ≡ false
  pub limit_fits : (1 ≤ limit) × (limit ≤ LIMIT_MAX)
  pub calm : (state node.disk).failures ≡ (state disk).failures
  pub none : keeps → fault_of (owner_of settings) (state disk).content ≡ None
  pub first : keeps → node.first ≡ floor (state disk).content + 1
  pub above : keeps → (b : ℕ) → Held (owner_of settings) (state disk) b → b < node.first
  pub kept : keeps → node.peers ≡ floor_peers (state disk).content
  pub begins : keeps → BeginsAbove state node.owner disk node.first
  pub living : keeps → IsLiving state node.owner (life_of settings limit disk [] node)

-- No life begins, for this reason. The limit is judged first, and then memory: either leaves the
-- disk as it was. One call of the disk failed if the reason is Device, and none if it is any
-- other: then, if the disk keeps the model, nothing was written.
pub record RefusesLife {D : Type 0} (keeps : Type 0) (state : D → DiskState) (settings : Settings)
    (limit : ℕ) (disk left : D) (reason : OpenFault) : Type 0 where
  pub range : (reason ≡ opening.Limit) ↔ ((limit ≡ 0) ⊎ (LIMIT_MAX < limit))
  pub at_limit : reason ≡ opening.Limit → left ≡ disk
  pub at_memory : reason ≡ opening.NoMemory → left ≡ disk
  pub device : reason ≡ opening.Refused Device
      → (state left).failures ≡ (state disk).failures + 1
  pub calm : reason ≢ opening.Refused Device → (state left).failures ≡ (state disk).failures
  pub rests : keeps → reason ≢ opening.Refused Device → Rests (state disk) (state left)
  pub unopened : keeps → Unopened state settings limit reason disk left
