-- Nodes in a group: members with their state files, over the same network. What a life is, and
-- when it was lived, is said of one node, whose calls promise it.
use Rattle.std.specs.Prelude.{◌≡◌, ℕ, List, [], ◌∷◌, ◌++◌, map, ◌==◌, slice_get, slice_set}
use Rattle.std.specs.Prelude.{Option, Some, None}
use Rattle.std.specs.List.{AllByRecursion, IsDistinct}
use Rattle.swim_disk.specs.Disk.{DiskState}
use Rattle.swim_member.specs.declared.answer.Out.{Out}
use Rattle.swim_member.specs.declared.settings.Settings.{Settings}
use Rattle.swim_member.specs.Events.{Step}
use Rattle.swim_node.specs.declared.entry.Entry.{Entry}
use Rattle.swim_node.specs.History.{steps, fresh_base}
use Rattle.swim_node.specs.Lives.{Era, Life, IsLived, IsLiving, Reached, ceiling_of, life_of}
use Rattle.swim_node.specs.Node.{NodeView, owner_of, next_base, granted_base}
use Rattle.swim_group.specs.Group.{Place, Group, Move, Happens, Restarts}
use Rattle.swim_group.specs.Network.{IsNotInvented}

-- a group of nodes: of each the life that goes on, and all
-- that they ever sent, whatever became of it
pub record NodeGroup (D : Type 0) : Type 0 where
  pub lives : List (Life D)
  pub sent : List Out

-- what happens next to a node: by a call an entry comes into its journal, and its disk is then
-- this one; its era ends; its ceiling is raised, with its peers; or it is gone, and a node is
-- opened with these settings, era limit and first number on this disk, and leaves that one
pub data NodeMove (D : Type 0) : Type 0 where
  Calls : (which : ℕ) → Entry → (left : D) → NodeMove D
  Rebases : (which : ℕ) → NodeMove D
  Raises : (which : ℕ) → (ceiling : ℕ) → (left : D) → NodeMove D
  Opens : (which : ℕ) → Settings → (limit first : ℕ) → (opened left : D) → NodeMove D

-- which node it happens to
abbrev pub node_of : {D : Type 0} → NodeMove D → ℕ
node_of (Calls which e left) = which
node_of (Rebases which) = which
node_of (Raises which ceiling left) = which
node_of (Opens which settings limit first opened left) = which

-- a life that begins
abbrev pub new_life : {D : Type 0} → Settings → (limit first : ℕ) → (opened left : D) → Life D
new_life settings limit first opened left = record {
  settings = settings;
  limit = limit;
  opened = opened;
  first = first;
  eras = [];
  base = fresh_base settings first limit;
  entries = [];
  left = left;
}

-- the life of the node after this
abbrev pub life_after : {D : Type 0} → NodeMove D → Life D → Life D
life_after (Calls which e left) life =
    record life { entries = life.entries ++ e ∷ []; left = left }
life_after (Rebases which) life = record life {
  eras = life.eras ++ record { base = life.base; entries = life.entries } ∷ [];
  base = next_base life.base life.entries;
  entries = [];
}
life_after (Raises which ceiling left) life =
    record life { base = granted_base life.base ceiling; left = left }
life_after (Opens which settings limit first opened left) life =
    new_life settings limit first opened left

-- what is sent: the datagrams of the entry, whether the link took them or not
abbrev pub sent_in : {D : Type 0} → NodeMove D → List Out
sent_in (Calls which e left) = e.outs.items
sent_in _ = []

-- the group after a move of the node that has this life, if there is one
abbrev pub moved_at : {D : Type 0} → NodeGroup D → NodeMove D → Option (Life D) → NodeGroup D
moved_at g m None = g
moved_at g m (Some life) = record {
  lives = slice_set g.lives (node_of m) (life_after m life);
  sent = g.sent ++ sent_in m;
}

-- the group after a move, and after these moves
abbrev pub after_node_move : {D : Type 0} → NodeGroup D → NodeMove D → NodeGroup D
after_node_move g m = moved_at g m (slice_get g.lives (node_of m))

abbrev pub after_node_moves : {D : Type 0} → NodeGroup D → List (NodeMove D) → NodeGroup D
after_node_moves g [] = g
after_node_moves g (m ∷ moves) = after_node_moves (after_node_move g m) moves

-- Which moves there may be

-- this life was lived by the node of these settings
abbrev pub WasLived : {D : Type 0} → (D → DiskState) → Life D → Type 0
WasLived state life = IsLived state (owner_of life.settings) life

-- the network invents nothing; and who is opened anew has the same
-- owner, on what became of the disk that its last life left
abbrev pub MayBefall : {D : Type 0} → (D → DiskState) → List Out → Life D → NodeMove D → Type 0
MayBefall state sent life (Calls which e left) = IsNotInvented sent e.event
MayBefall state sent life (Rebases which) = Unit {0}
MayBefall state sent life (Raises which ceiling left) = Unit {0}
MayBefall {D} state sent life (Opens which settings limit first opened left) =
    (owner_of settings ≡ owner_of life.settings)
    × Reached D state (owner_of settings) (ceiling_of life) life.left opened

-- the move may come now: there is such a node, this may befall
-- it, and what it has lived then is a life that was lived
pub record NodeMayMove {D : Type 0} (state : D → DiskState) (g : NodeGroup D) (m : NodeMove D)
    : Type 0 where
  pub life : Life D
  pub found : slice_get g.lives (node_of m) ≡ Some life
  pub may : MayBefall state g.sent life m
  pub lived : WasLived state (life_after m life)

-- each of these moves may come where it comes
abbrev pub IsNodeRun : {D : Type 0} → (D → DiskState) → NodeGroup D → List (NodeMove D) → Type 0
IsNodeRun state g [] = Unit {0}
IsNodeRun state g (m ∷ moves) = NodeMayMove state g m × IsNodeRun state (after_node_move g m) moves

-- nodes that were opened, on whatever disks, and did nothing yet
pub record IsOpened {D : Type 0} (state : D → DiskState) (life : Life D) : Type 0 where
  pub new : life ≡ new_life life.settings life.limit life.first life.opened life.left
  pub lived : WasLived state life

-- the name of the node that has this life
abbrev pub name_in : {D : Type 0} → Life D → ℕ
name_in life = life.settings.me

-- a group begins: all nodes were opened, no two have one name, and nothing was sent
pub record NodesBegin {D : Type 0} (state : D → DiskState) (g : NodeGroup D) : Type 0 where
  pub opened : AllByRecursion (IsOpened state) g.lives
  pub names : IsDistinct (λ x y. x == y) (map name_in g.lives)
  pub sent : g.sent ≡ []

-- The members of the nodes

-- the events of these eras with their ceilings
abbrev pub steps_in : List Era → List Step
steps_in [] = []
steps_in (era ∷ eras) = steps era.entries ++ steps_in eras

-- the member with this life: how it began, and its events in all eras
abbrev pub place_of : {D : Type 0} → Life D → Place
place_of life = record {
  settings = life.settings;
  first = life.first;
  steps = steps_in life.eras ++ steps life.entries;
}

-- the group of the members
abbrev pub members_of : {D : Type 0} → NodeGroup D → Group
members_of g = record { places = map place_of g.lives; sent = g.sent }

-- what happens to the members: nothing, where an era ends or the ceiling is raised
abbrev pub move_of : {D : Type 0} → NodeMove D → List Move
move_of (Calls which e left) = Happens which e.event e.granted ∷ []
move_of (Rebases which) = []
move_of (Raises which ceiling left) = []
move_of (Opens which settings limit first opened left) = Restarts which settings first ∷ []

abbrev pub moves_of : {D : Type 0} → List (NodeMove D) → List Move
moves_of [] = []
moves_of (m ∷ moves) = move_of m ++ moves_of moves

-- Real nodes

-- this node lives in the group, in this place
pub record LivesAt {D : Type 0} (state : D → DiskState) (g : NodeGroup D) (which : ℕ)
    (node : NodeView D) : Type 0 where
  pub settings : Settings
  pub limit : ℕ
  pub opened : D
  pub eras : List Era
  pub found : slice_get g.lives which ≡ Some (life_of settings limit opened eras node)
  pub living : IsLiving state node.owner (life_of settings limit opened eras node)

-- in whichever group the old node lives, and in whichever place, this move may
-- come next if that is so, and then the new one lives there
abbrev pub IsMoveOf : {D : Type 0} → (D → DiskState) → NodeView D → NodeView D
    → (List Out → Type 0) → (ℕ → NodeMove D) → Type 0
IsMoveOf {D} state old new if_so move =
    (g : NodeGroup D) → (which : ℕ) → LivesAt state g which old → if_so g.sent
    → NodeMayMove state g (move which) × LivesAt state (after_node_move g (move which)) which new

-- whichever life a node was that is gone, and whatever this disk is of what it left: this move
-- may come next, and then the new node lives there
abbrev pub IsOpeningOf : {D : Type 0} → (D → DiskState) → Settings → ℕ → D → NodeView D → Type 0
IsOpeningOf {D} state settings limit opened new =
    (g : NodeGroup D) → (which : ℕ) → (life : Life D)
    → slice_get g.lives which ≡ Some life
    → MayBefall state g.sent life (Opens which settings limit new.first opened new.disk)
    → NodeMayMove state g (Opens which settings limit new.first opened new.disk)
    × LivesAt state (after_node_move g (Opens which settings limit new.first opened new.disk))
    which new
