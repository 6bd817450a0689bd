-- A life of a member over UDP, in one call.
use Rattle.std.specs.Prelude.{◌≡◌, ℕ, List, [], Some, Result, ⊤}
use Rattle.swim_disk.specs.Disk.{DiskState}
use Rattle.swim_member.specs.Checks.{fault_of}
use Rattle.swim_member.specs.declared.settings.Settings.{Settings}
use Rattle.swim_node.specs.Lives.{BeginsAbove, IsLiving, Unopened, life_of}
use Rattle.swim_node.specs.Node.{NodeView, owner_of}
use Rattle.swim_serve.specs.declared.fault.Fault.{Fault}
use Rattle.swim_serve.specs.declared.grace.MemberEnd.{MemberEnd}
use Rattle.swim_serve.specs.Eras.{OutsideView}
use Rattle.swim_serve.specs.Members.{Lived}
use Rattle.swim_state.specs.Held.{Covers, Held, Through}
use Rattle.swim_wire.specs.Numbers.{address_in, IsNoMembers}
use Rattle.rollerblack.specs.declared.over_udp.StartFault.{StartFault}
use Rattle.rollerblack.specs.declared.over_udp.StartFault.TheVariants as start

-- on this disk a life began, above all own numbers that a life before may have sent, of a member
-- with these settings that joins this list; its workers lived it until it ended so, over sockets
-- that tell what came in and not what they took, and left this node
pub record LivesOverUdp {D : Type 0} (keeps : Type 0) (state : D → DiskState)
    (settings : Settings) (limit : ℕ) (join : List ℕ) (opened : D)
    (how : Result MemberEnd Fault) (left : NodeView D)
    : Type 0 where
  pub node : NodeView D
  pub outside : OutsideView
  pub begins : keeps → BeginsAbove state node.owner opened node.first
  pub living : keeps → IsLiving state node.owner (life_of settings limit opened [] node)
  pub me : outside.desk.joiner.me ≡ settings.me
  pub list : outside.desk.joiner.peers.list ≡ join
  pub lived : Lived keeps state ⊤ ⊥ node outside how left

-- the system refused a socket, or gave no random numbers
abbrev pub IsOfSystem : StartFault → Type 0
IsOfSystem (start.Datagrams error) = ⊤
IsOfSystem (start.Control error) = ⊤
IsOfSystem (start.Random error) = ⊤
IsOfSystem _ = ⊥

-- what a start that was refused says, and leaves on the disk: what is refused before the opening
-- leaves it as it was, a refused opening leaves what it held, and so does a life that has no memory
-- for its workers
abbrev pub RefusesStart : {D : Type 0} → Type 0 → (D → DiskState) → Settings → ℕ → D → D
    → StartFault → Type 0
RefusesStart keeps state settings limit opened left (start.Settings fault) =
    (fault_of settings ≡ Some fault) × (left ≡ opened)
RefusesStart keeps state settings limit opened left start.Address =
    IsNoMembers (address_in settings.me) × (left ≡ opened)
RefusesStart keeps state settings limit opened left (start.Open reason) =
    keeps → Unopened state settings limit reason opened left
RefusesStart keeps state settings limit opened left start.Memory =
    keeps → (b : ℕ) → Held (owner_of settings) (state opened) b
    → Through (Covers (owner_of settings) b) (state opened) (state left)
RefusesStart keeps state settings limit opened left _ = left ≡ opened
