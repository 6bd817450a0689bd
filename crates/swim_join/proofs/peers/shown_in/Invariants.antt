use Rattle.std.proofs.Common.{◌≡◌, ◌≤◌, length, take}
use Rattle.std.specs.List.{filter}
use Rattle.swim_join.specs.Joins.{has_row}
use Rattle.swim_join.proofs.peers.shown_in.Given as goal

-- those of the first so many
abbrev pub invariant-loop-peer : goal.invariant-loop-peer
invariant-loop-peer l =
    (l.shown.items ≡ filter (has_row l.rows) (take l.peer-index l.peers)) × (length l.shown.items ≤ l.peer-index)
