use Rattle.std.proofs.Common.{◌≡◌, ◌+◌, ◌++◌, ◌≤◌, length, take}
use Rattle.swim_join.specs.Searches.{missing_in}
use Rattle.swim_join.proofs.sought.add_missing.Given as goal

-- those of the first so many
abbrev pub invariant-loop-peer : goal.invariant-loop-peer
invariant-loop-peer l =
    (l.wanted.items ≡ l.initial.wanted.items ++ missing_in l.rows (take l.peer-index l.peers))
    × (length l.wanted.items ≤ length l.initial.wanted.items + l.peer-index)
