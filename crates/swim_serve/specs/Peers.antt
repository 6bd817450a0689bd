-- What becomes of the peers in a member's state file where an era ends.
use Rattle.std.specs.Prelude.{◌≡◌, ◌⊎◌, ◌+◌, ◌<◌, true, false, []}
use Rattle.swim_wire.specs.declared.update.TheConstants.{NUMBER_MAX}
use Rattle.swim_disk.specs.Disk.{DiskState}
use Rattle.swim_state.specs.declared.fault.SaveFault.{SaveFault}
use Rattle.swim_state.specs.declared.fault.SaveFault.TheVariants.{Device, Changed, Exhausted}
use Rattle.swim_state.specs.Held.{HasPeers}
use Rattle.swim_node.specs.History.{state_after}
use Rattle.swim_node.specs.Node.{NodeView, next_base}
use Rattle.swim_node.specs.Peers.{known_peers}
use Rattle.swim_serve.specs.declared.era_saves.PeersSave.{PeersSave}
use Rattle.swim_serve.specs.declared.era_saves.PeersSave.TheVariants as peers

-- where an era ends so and nothing is saved, the next one begins so
abbrev pub next_era : {D : Type 0} → NodeView D → NodeView D
next_era n = record {
  base = next_base n.base n.entries;
  entries = [];
  disk = n.disk;
  owner = n.owner;
  first = n.first;
  peers = n.peers;
  broken = n.broken;
}

-- the state file has the peers that the member knows now
abbrev pub HasKnown : {D : Type 0} → NodeView D → Type 0
HasKnown n = n.peers ≡ known_peers (state_after n.base n.entries)

-- the peers that the member knows were saved with a greater ceiling, and a crash leaves them
pub record HasSaved {D : Type 0} (keeps : Type 0) (state : D → DiskState) (a b : NodeView D)
    : Type 0 where
  pub known : HasKnown b
  pub raised : a.base.granted < b.base.granted
  pub whole : b.broken ≡ false
  pub lasts : keeps → HasPeers (state b.disk) b.peers

-- why a save failed: a call of the disk did; or the file was another than a failed save had left;
-- or there is no greater ceiling
abbrev pub FailedBy : {D : Type 0} → (D → DiskState) → NodeView D → NodeView D → SaveFault → Type 0
FailedBy state a b Device =
    (b.broken ≡ true) × ((state b.disk).failures ≡ (state a.disk).failures + 1)
FailedBy state a b Changed = (a.broken ≡ true) × (b.broken ≡ true)
FailedBy state a b Exhausted = b.base.granted ≡ NUMBER_MAX

-- they could not be saved, and the log is told why; where no save had failed before, the old ones
-- stand with their ceiling
pub record CouldNotSave {D : Type 0} (state : D → DiskState) (a b : NodeView D) (why : SaveFault)
    : Type 0 where
  pub failed : FailedBy state a b why
  pub stood : a.broken ≡ false → (b.base.granted ≡ a.base.granted) × (b.peers ≡ a.peers)

-- the peers that the member knows were to be saved: they were, or could not be
abbrev pub KeepsPeers : {D : Type 0} → Type 0 → (D → DiskState) → NodeView D → NodeView D → Type 0
KeepsPeers keeps state a b =
    HasSaved keeps state a b ⊎ ((why : SaveFault) × CouldNotSave state a b why)

-- what became of the peers that the member knows, which may have been in the state file
abbrev pub BecameOf : {D : Type 0} → Type 0 → (D → DiskState) → NodeView D → NodeView D → PeersSave
    → Type 0
BecameOf keeps state a b peers.Spared = HasKnown a × (b ≡ a)
BecameOf keeps state a b peers.Done = HasSaved keeps state a b
BecameOf keeps state a b peers.Failed = (why : SaveFault) × CouldNotSave state a b why

-- an era begins, and the state file has the peers that the member knows, or it could not keep them
abbrev pub BeginsKept : {D : Type 0} → NodeView D → Type 0
BeginsKept n = HasKnown n ⊎ ((n.broken ≡ true) ⊎ (n.base.granted ≡ NUMBER_MAX))
