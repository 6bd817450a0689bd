use Rattle.std.proofs.Common.{◌≡◌, ◌≤◌, length, take}
use Rattle.swim_join.specs.Searches.{sought_in}
use Rattle.swim_join.proofs.sought.sought_in.Given as goal

-- those of the first so many rows
abbrev pub invariant-loop-row : goal.invariant-loop-row
invariant-loop-row l =
    (l.list.items ≡ sought_in l.me (take l.row-index l.rows) l.sought) × (length l.list.items ≤ l.row-index)
