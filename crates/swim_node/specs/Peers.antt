-- Whom a member knows, as its state file keeps it.
use Rattle.std.specs.Prelude.{◌≡◌, ◌⊎◌, List, ℕ, Bool, true, false, map, take}
use Rattle.swim_disk.specs.Disk.{DiskState, Rests}
use Rattle.swim_state.specs.File.{floor_peers}
use Rattle.swim_state.specs.Held.{HasPeers}
use Rattle.swim_state.specs.declared.peers.TheConstants.{PEERS_MAX}
use Rattle.swim_member.specs.State.{State}
use Rattle.swim_member.specs.Member.{eligible, row_name}
use Rattle.swim_node.specs.declared.entry.Save.{Save}
use Rattle.swim_node.specs.declared.entry.Save.TheVariants.{Kept, Done, Failed}

-- the first eight members that are Alive or Suspect, in the order of their endpoints
abbrev pub known_peers : State → List ℕ
known_peers s = map row_name (take PEERS_MAX (eligible s))

-- what a save that has these peers does to those of the file, by those before and
-- after it. Done leaves them in every image, or, if a broken store read a floor and
-- wrote nothing, those that stand with it. Failed leaves the old ones, or grants these.
pub record NamesPeers (keeps : Type 0) (given : List ℕ) (save : Save) (broken : Bool)
    (old new : DiskState) (before after : List ℕ) : Type 0 where
  pub kept : save ≡ Kept → after ≡ before
  pub exact : save ≡ Done → broken ≡ false → after ≡ given
  pub done : keeps → save ≡ Done → HasPeers new after
  pub read : keeps → save ≡ Done
      → (after ≡ given) ⊎ ((broken ≡ true) × (after ≡ floor_peers old.content) × Rests old new)
  pub steady : save ≡ Failed → broken ≡ false → after ≡ before
  pub failed : keeps → save ≡ Failed
      → (after ≡ before) ⊎ ((broken ≡ true) × (after ≡ floor_peers old.content))
