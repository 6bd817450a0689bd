use Rattle.std.proofs.Common.{◌≡◌, ℕ, List, subst}
use Rattle.std.specs.Prelude.{Result, Ok, Err, OnOk}
use Rattle.std.proofs.lemmas.List.Elements.{All-nil}
use Rattle.swim_disk.specs.Disk.{DiskState}
use Rattle.swim_state.specs.Held.{HasPeers}
use Rattle.swim_node.specs.History.{state_after}
use Rattle.swim_node.specs.Lives.{Life}
use Rattle.swim_node.specs.Peers.{known_peers}
use Rattle.swim_play.specs.Life.{PlayDisk, IsMine, disk_state}
use Rattle.swim_play.proofs.life.OpenLife.keep_peers.Goals as goal

pub invariant_of-self : goal.invariant_of-self
invariant_of-self c =
    let before = c.self.invariant in
    record {
      living = c.keep_peers.ensures.living _ _ _ _ before.living;
      mine = record { ended = before.mine.ended; last = rw c.keep_peers.ensures.entries (All-nil IsMine) };
      room = rw c.keep_peers.ensures.base before.room;
    }

-- the peers that every image has are those that are known
named : {T E : Type 0} (result : Result T E) (disk : DiskState) (peers known : List ℕ) (Before After : Type 0) → OnOk result (HasPeers disk peers) → OnOk result (Before × (peers ≡ known) × After) → OnOk result (HasPeers disk known)
named (Ok v) disk peers known Before After has same = subst (HasPeers disk) same.1 has
named (Err e) disk peers known Before After has same = tt

pub returns-clause-named : goal.returns-clause-named
returns-clause-named c =
    let old = c.self.inside.node in
    let new = c.keep_peers.new.self in
    subst (λ (l : Life PlayDisk). OnOk c.keep_peers.result (HasPeers (disk_state new.disk) (known_peers (state_after l.base l.entries)))) c.self.view_is
    (named c.keep_peers.result (disk_state new.disk) new.peers (known_peers (state_after old.base old.entries)) _ _ (c.keep_peers.ensures.keeps.tries.guards (tt {0})).named c.keep_peers.ensures.keeps.ok)
