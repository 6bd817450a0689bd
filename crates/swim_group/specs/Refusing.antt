-- When a group of real nodes refuses a call. Memory may lack at any time. A disk fails for want
-- of memory, or by what is planned of it: then its failure is a Device. Of a disk that was made,
-- or that a crash left, nothing is planned.
use Rattle.std.specs.Prelude.{◌≡◌, ◌⊎◌, ℕ, ◌<◌, ◌≤◌, List, length, slice_get, Some, None}
use Rattle.swim_wire.specs.declared.update.TheConstants.{NUMBER_MAX}
use Rattle.swim_state.specs.File.{floor}
use Rattle.swim_state.specs.declared.fault.InitFault.{InitFault}
use Rattle.swim_state.specs.declared.fault.InitFault.TheVariants as init
use Rattle.swim_state.specs.declared.fault.RecoverFault.{RecoverFault}
use Rattle.swim_state.specs.declared.fault.RecoverFault.TheVariants.{Device, Exhausted}
use Rattle.swim_member.specs.declared.event.Event.{Event}
use Rattle.swim_member.specs.declared.settings.Settings.{Settings}
use Rattle.swim_node.specs.declared.fault.ApplyFault.{ApplyFault}
use Rattle.swim_node.specs.declared.fault.ApplyFault.TheVariants.{EraFull, OutOfTurn}
use Rattle.swim_node.specs.declared.fault.ApplyFault.TheVariants as apply
use Rattle.swim_node.specs.declared.fault.OpenFault.{OpenFault}
use Rattle.swim_node.specs.declared.fault.OpenFault.TheVariants.{Limit, Refused as Unrecovered}
use Rattle.swim_node.specs.declared.fault.OpenFault.TheVariants as opening
use Rattle.swim_node.specs.declared.opening.TheConstants.{LIMIT_MAX}
use Rattle.swim_node.specs.Node.{NodeView, IsFull}
use Rattle.swim_group.specs.declared.fault.NodesFault.{NodesFault}
use Rattle.swim_group.specs.declared.fault.NodesFault.TheVariants.{Unfit, NotMade, NotOpened}
use Rattle.swim_group.specs.declared.fault.NodesFault.TheVariants.{NoNode, Gone, NoDatagram}
use Rattle.swim_group.specs.declared.fault.NodesFault.TheVariants.{Readable, Refused, NoMemory}
use Rattle.swim_group.specs.declared.seat.Seat.{Seat}
use Rattle.swim_group.specs.Real.{MayBegin, IsUnfit, IsReadable}
use Rattle.swim_group.specs.RealNodes.{RealNodes, NodeDisk, LeavesAt, node_disk_state}

-- no era has so many entries at most
abbrev pub IsNoLimit : ℕ → Type 0
IsNoLimit limit = (limit ≡ 0) ⊎ (LIMIT_MAX < limit)

-- a state file on a disk that held one is not recovered: a call of the
-- disk failed, or there is no number above the floor
abbrev pub IsUnrecovered : List ℕ → RecoverFault → Type 0
IsUnrecovered content Device = Unit {0}
IsUnrecovered content Exhausted = floor content ≡ NUMBER_MAX
IsUnrecovered content _ = ⊥

-- and no node is opened on it
abbrev pub IsUnopened : ℕ → List ℕ → OpenFault → Type 0
IsUnopened limit content (Unrecovered why) = IsUnrecovered content why
IsUnopened limit content Limit = IsNoLimit limit
IsUnopened limit content opening.NoMemory = Unit {0}

-- Beginning

-- a new state file was not made on an empty disk
abbrev pub IsNotMade : InitFault → Type 0
IsNotMade init.Device = Unit {0}
IsNotMade _ = ⊥

-- a node was not opened for the first time, on a file that has a floor of 0
abbrev pub IsUnopenedFirst : ℕ → OpenFault → Type 0
IsUnopenedFirst limit (Unrecovered why) = why ≡ Device
IsUnopenedFirst limit Limit = IsNoLimit limit
IsUnopenedFirst limit opening.NoMemory = Unit {0}

-- one of the nodes was not made, or not opened
abbrev pub IsUnseated : ℕ → NodesFault → Type 0
IsUnseated limit (NotMade why) = IsNotMade why
IsUnseated limit (NotOpened why) = IsUnopenedFirst limit why
IsUnseated limit NoMemory = Unit {0}
IsUnseated limit _ = ⊥

-- a group of nodes does not begin: the settings are judged first
abbrev pub AreUnbegun : List Settings → ℕ → NodesFault → Type 0
AreUnbegun settings limit (Unfit why) = IsUnfit settings why
AreUnbegun settings limit fault = MayBegin settings × IsUnseated limit fault

-- Seats

-- a node that sits there
pub record HasNode (seat : Seat) : Type 0 where
  pub node : NodeView NodeDisk
  pub sits : seat.node ≡ Some node

-- a node does not enter a call in turn
abbrev pub IsUnentered : NodeView NodeDisk → ApplyFault → Type 0
IsUnentered node EraFull = IsFull node.base node.entries
IsUnentered node apply.NoMemory = Unit {0}
IsUnentered node OutOfTurn = ⊥

-- who sits there hears nothing
abbrev pub IsDeaf : Seat → NodesFault → Type 0
IsDeaf seat Gone = seat.node ≡ None
IsDeaf seat (Refused why) = (has : HasNode seat) × IsUnentered has.node why
IsDeaf seat _ = ⊥

-- the node that sits there crashed, and is not opened on what that left of its disk
pub record IsLost (seat : Seat) (limit : ℕ) (why : OpenFault) : Type 0 where
  pub has : HasNode seat
  pub content : List ℕ
  pub left : (node_disk_state has.node.disk).images content
  pub unopened : IsUnopened limit content why

-- who sits there is not opened again
abbrev pub IsShut : Seat → ℕ → NodesFault → Type 0
IsShut seat limit Gone = seat.node ≡ None
IsShut seat limit (NotOpened why) = IsLost seat limit why
IsShut seat limit _ = ⊥

-- who sits in this place has this
pub record SeatHas (g : RealNodes) (which : ℕ) (P : Seat → Type 0) : Type 0 where
  pub seat : Seat
  pub found : slice_get g.seats which ≡ Some seat
  pub has : P seat

-- Calls

-- there is no such node, it hears nothing, or no memory for what it may send
abbrev pub IsUnheard : RealNodes → ℕ → NodesFault → Type 0
IsUnheard g which NoNode = length g.seats ≤ which
IsUnheard g which NoMemory = Unit {0}
IsUnheard g which fault = SeatHas g which (λ seat. IsDeaf seat fault)

-- an event does not come
abbrev pub IsNoStep : RealNodes → ℕ → Event → NodesFault → Type 0
IsNoStep g which event Readable = (which < length g.seats) × IsReadable event
IsNoStep g which event fault = IsUnheard g which fault

-- a datagram does not come
abbrev pub IsNoDelivery : RealNodes → ℕ → ℕ → NodesFault → Type 0
IsNoDelivery g which datagram NoDatagram = (which < length g.seats) × (length g.kept ≤ datagram)
IsNoDelivery g which datagram fault = IsUnheard g which fault

-- a node is not opened again after a crash: then it is gone
abbrev pub IsNoOpening : RealNodes → RealNodes → ℕ → NodesFault → Type 0
IsNoOpening old new which NoNode = (length old.seats ≤ which) × (new ≡ old)
IsNoOpening old new which Gone = SeatHas old which (λ seat. seat.node ≡ None) × (new ≡ old)
IsNoOpening old new which (NotOpened why) =
    SeatHas old which (λ seat. IsLost seat old.limit why) × LeavesAt old new which
IsNoOpening old new which _ = ⊥

-- there is no such node, or it is gone
abbrev pub IsAbsent : RealNodes → ℕ → NodesFault → Type 0
IsAbsent g which NoNode = length g.seats ≤ which
IsAbsent g which Gone = SeatHas g which (λ seat. seat.node ≡ None)
IsAbsent g which _ = ⊥
