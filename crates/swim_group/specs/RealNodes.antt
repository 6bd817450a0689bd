-- Real nodes on disks in memory that fail by plans, with what is
-- kept of their datagrams, and what each call makes of them.
use Rattle.std.specs.Prelude.{◌≡◌, ℕ, List, [], ◌∷◌, ◌++◌, take, slice_get, slice_set}
use Rattle.std.specs.Prelude.{Option, Some, None}
use Rattle.std.specs.List.{AllByRecursion, swap_remove}
use Rattle.swim_disk.specs.Choice.{left_by}
use Rattle.swim_disk.specs.Disk.{DiskState}
use Rattle.swim_disk.specs.MemDisk as memory
use Rattle.swim_disk.specs.Fault as fault
use Rattle.swim_disk.specs.declared.fault.FaultDisk.{FaultDisk}
use Rattle.swim_disk.specs.declared.mem.Choice.{Choice}
use Rattle.swim_disk.specs.declared.mem.MemDisk.{MemDisk}
use Rattle.swim_wire.specs.Spelling.{HasText}
use Rattle.swim_member.specs.declared.answer.Out.{Out}
use Rattle.swim_member.specs.declared.event.Event.{Event}
use Rattle.swim_member.specs.declared.settings.Settings.{Settings}
use Rattle.swim_member.specs.Checks.{AreSound}
use Rattle.swim_node.specs.declared.entry.Entry.{Entry}
use Rattle.swim_node.specs.declared.entry.Reply.{Reply}
use Rattle.swim_node.specs.History.{fresh_base}
use Rattle.swim_node.specs.Lives.{Life, IsLiving, life_of}
use Rattle.swim_node.specs.Node.{NodeView, owner_of, next_base}
use Rattle.swim_node.specs.Sending.{HasTexts}
use Rattle.swim_group.specs.declared.failure.Failure.{Failure}
use Rattle.swim_group.specs.declared.fault.NodesFault.{NodesFault}
use Rattle.swim_group.specs.declared.fault.NodesFault.TheVariants.{Gone}
use Rattle.swim_group.specs.declared.seat.Seat.{Seat}
use Rattle.swim_group.specs.Network.{WasSent, IsNotInvented}
use Rattle.swim_group.specs.Nodes.{NodeGroup, NodeMove, Calls, Rebases, Opens, NodesBegin}
use Rattle.swim_group.specs.Nodes.{IsNodeRun, IsMoveOf, IsOpened}
use Rattle.swim_group.specs.Nodes.{after_node_moves, members_of}
use Rattle.swim_group.specs.Numbers.{IsTold, IsUnpassed}
use Rattle.swim_group.specs.Real.{Arrives}

-- the disk of a real node
abbrev pub NodeDisk : Type 0
NodeDisk = FaultDisk MemDisk

-- what contracts see of it, as the disk model has it: what is planned of it is no part of that
abbrev pub node_disk_state : NodeDisk → DiskState
node_disk_state disk = fault.state_of memory.state_of disk

-- what a group of real nodes is seen as: the settings of each, with the node itself or
-- with none where it was not opened again, and what was planned last of its disk;
-- the datagrams that may still come, how many of these are kept at most, and how many
-- entries an era has at most
pub record RealNodes : Type 0 where
  pub seats : List Seat
  pub kept : List Out
  pub room : ℕ
  pub limit : ℕ

-- this is the life of that node
pub record IsLifeOf (life : Life NodeDisk) (node : NodeView NodeDisk) : Type 0 where
  pub same : life ≡ life_of life.settings life.limit life.opened life.eras node
  pub living : IsLiving node_disk_state node.owner life

-- it is the life of the node, if there is one
abbrev pub IsLifeIn : Life NodeDisk → Option (NodeView NodeDisk) → Type 0
IsLifeIn life None = Unit {0}
IsLifeIn life (Some node) = IsLifeOf life node

-- who sits there has this life, under sound settings of the same owner
pub record SitsThere (life : Life NodeDisk) (seat : Seat) : Type 0 where
  pub owner : owner_of seat.settings ≡ owner_of life.settings
  pub sound : AreSound seat.settings
  pub alive : IsLifeIn life seat.node

-- these are the lives, one for each seat
abbrev pub AreLivesOf : List (Life NodeDisk) → List Seat → Type 0
AreLivesOf [] [] = Unit {0}
AreLivesOf [] (seat ∷ seats) = ⊥
AreLivesOf (life ∷ lives) [] = ⊥
AreLivesOf (life ∷ lives) (seat ∷ seats) = SitsThere life seat × AreLivesOf lives seats

-- the nodes live so after some run of a group of nodes from its beginning, and each of these
-- datagrams was sent in it, and has a text
pub record HasNodeRun (seats : List Seat) (kept : List Out) : Type 0 where
  pub group : NodeGroup NodeDisk
  pub moves : List (NodeMove NodeDisk)
  pub begins : NodesBegin node_disk_state group
  pub run : IsNodeRun node_disk_state group moves
  pub lives : AreLivesOf (after_node_moves group moves).lives seats
  pub sent : AllByRecursion (λ (out : Out).
      WasSent (after_node_moves group moves).sent out.datagram) kept
  pub fit : AllByRecursion (λ (out : Out). HasText out.datagram) kept

-- and in this run nothing is invented, and no number is passed
pub record HasSoundNodeRun (view : RealNodes) : Type 0 where
  pub ran : HasNodeRun view.seats view.kept
  pub told : IsTold (members_of (after_node_moves ran.group ran.moves))
  pub within : AllByRecursion (IsUnpassed (members_of (after_node_moves ran.group ran.moves)))
      (members_of (after_node_moves ran.group ran.moves)).places

-- this is so of all that was sent in a run after which the nodes live so
pub record HasSent (view : RealNodes) (P : List Out → Type 0) : Type 0 where
  pub ran : HasNodeRun view.seats view.kept
  pub all : P (after_node_moves ran.group ran.moves).sent

-- this node sits there now, and all else is as it was
abbrev pub seat_with : Seat → NodeView NodeDisk → Seat
seat_with seat node = record seat { node = Some node }

-- an entry with this event and this reply came into the journal of the node that sits
-- there. In each group in which it lives that is its next move, if nothing was invented
pub record HearsThere (old new : Seat) (event : Event) (reply : Reply) : Type 0 where
  pub before : NodeView NodeDisk
  pub after : NodeView NodeDisk
  pub e : Entry
  pub was : old.node ≡ Some before
  pub is : new ≡ seat_with old after
  pub entries : after.entries ≡ before.entries ++ e ∷ []
  pub event_is : e.event ≡ event
  pub reply_is : e.reply ≡ reply
  pub texts : HasTexts e
  pub moves : IsMoveOf node_disk_state before after (λ sent. IsNotInvented sent event)
      (λ which. Calls which e after.disk)

-- this happened in this place, nowhere else anything changed, and
-- what the node sends is kept after the rest, as far as there is room
pub record HearsAt (old new : RealNodes) (which : ℕ) (event : Event) (reply : Reply) : Type 0 where
  pub seat : Seat
  pub next : Seat
  pub found : slice_get old.seats which ≡ Some seat
  pub hears : HearsThere seat next event reply
  pub is : new ≡ record old {
    seats = slice_set old.seats which next;
    kept = take old.room (old.kept ++ hears.e.outs.items);
  }

-- the kept datagram with this number comes to the node in this place
pub record DeliversAt (old new : RealNodes) (which datagram : ℕ) (reply : Reply) : Type 0 where
  pub out : Out
  pub kept : slice_get old.kept datagram ≡ Some out
  pub event : Event
  pub arrives : Arrives out event
  pub heard : HearsAt old new which event reply

-- the content of the one disk is what a crash of the other one leaves by this choice
abbrev pub IsLeftBy : Choice → NodeDisk → NodeDisk → Type 0
IsLeftBy choice before opened =
    (node_disk_state opened).content ≡ left_by choice (memory.disk_of (fault.inner_of before))

-- the node that sits there crashed, and was opened anew on what this choice leaves of its disk.
-- In each group in which it lived that is its next move
pub record OpensThere (old new : Seat) (limit : ℕ) (choice : Choice) : Type 0 where
  pub before : NodeView NodeDisk
  pub after : NodeView NodeDisk
  pub opened : NodeDisk
  pub was : old.node ≡ Some before
  pub is : new ≡ record (seat_with old after) { planned = None }
  pub base : after.base ≡ fresh_base old.settings after.first limit
  pub entries : after.entries ≡ []
  pub left : IsLeftBy choice before.disk opened
  pub moves : IsMoveOf node_disk_state before after (λ sent. owner_of old.settings ≡ before.owner)
      (λ which. Opens which old.settings limit after.first opened after.disk)

-- this happened in this place, and nothing else changed
pub record OpensAt (old new : RealNodes) (which : ℕ) (choice : Choice) : Type 0 where
  pub seat : Seat
  pub next : Seat
  pub found : slice_get old.seats which ≡ Some seat
  pub opens : OpensThere seat next old.limit choice
  pub is : new ≡ record old { seats = slice_set old.seats which next }

-- who sat there is gone with its disk, of which nothing is planned any more
abbrev pub seat_left : Seat → Seat
seat_left seat = record seat { node = None; planned = None }

-- who sat there is gone by this refusal, or was before
abbrev pub LeavesThere : Seat → Seat → NodesFault → Type 0
LeavesThere old new Gone = new ≡ old
LeavesThere old new _ = new ≡ seat_left old

-- who sat there is gone, and nothing else changed
pub record LeavesAt (old new : RealNodes) (which : ℕ) : Type 0 where
  pub seat : Seat
  pub found : slice_get old.seats which ≡ Some seat
  pub is : new ≡ record old { seats = slice_set old.seats which (seat_left seat) }

-- the era of the node that sits there ended. In each group in which it lives that is its next move
pub record EraEndsThere (old new : Seat) : Type 0 where
  pub before : NodeView NodeDisk
  pub after : NodeView NodeDisk
  pub was : old.node ≡ Some before
  pub is : new ≡ seat_with old after
  pub base : after.base ≡ next_base before.base before.entries
  pub entries : after.entries ≡ []
  pub moves : IsMoveOf node_disk_state before after (λ sent. Unit {0}) (λ which. Rebases which)

-- this happened in this place, and nothing else changed
pub record EraEndsAt (old new : RealNodes) (which : ℕ) : Type 0 where
  pub seat : Seat
  pub next : Seat
  pub found : slice_get old.seats which ≡ Some seat
  pub ends : EraEndsThere seat next
  pub is : new ≡ record old { seats = slice_set old.seats which next }

-- of the disk of the node that sits there this failure is planned
pub record PlansThere (old new : Seat) (failure : Failure) : Type 0 where
  pub node : NodeView NodeDisk
  pub sits : old.node ≡ Some node
  pub is : new ≡ record old { planned = Some failure }

-- this happened in this place, and nothing else changed
pub record PlansAt (old new : RealNodes) (which : ℕ) (failure : Failure) : Type 0 where
  pub seat : Seat
  pub next : Seat
  pub found : slice_get old.seats which ≡ Some seat
  pub plans : PlansThere seat next failure
  pub is : new ≡ record old { seats = slice_set old.seats which next }

-- the kept datagram with this number is kept no more, the
-- last one has its place, and nothing else changed
pub record LosesAt (old new : RealNodes) (datagram : ℕ) : Type 0 where
  pub out : Out
  pub kept : slice_get old.kept datagram ≡ Some out
  pub is : new ≡ record old { kept = swap_remove old.kept datagram out }

-- a node that was opened with these settings and did nothing yet, and
-- nothing is planned of its disk
pub record IsNewNode (settings : Settings) (limit : ℕ) (seat : Seat) : Type 0 where
  pub node : NodeView NodeDisk
  pub opened : NodeDisk
  pub is : seat ≡ record seat { settings = settings; node = Some node; planned = None }
  pub begins : IsOpened node_disk_state (life_of settings limit opened [] node)
  pub living : IsLiving node_disk_state node.owner (life_of settings limit opened [] node)

-- one of them for each of these settings
abbrev pub AreNewNodes : ℕ → List Settings → List Seat → Type 0
AreNewNodes limit [] [] = Unit {0}
AreNewNodes limit [] (seat ∷ seats) = ⊥
AreNewNodes limit (s ∷ settings) [] = ⊥
AreNewNodes limit (s ∷ settings) (seat ∷ seats) =
    IsNewNode s limit seat × AreNewNodes limit settings seats
