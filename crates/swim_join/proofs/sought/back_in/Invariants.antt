use Rattle.std.proofs.Common.{◌≡◌, ◌≤◌, length, take}
use Rattle.swim_join.specs.Searches.{back_in}
use Rattle.swim_join.proofs.sought.back_in.Given as goal

-- those of the first so many
abbrev pub invariant-loop-who : goal.invariant-loop-who
invariant-loop-who l =
    (l.back.items ≡ back_in l.me l.rows (take l.who-index l.sought)) × (length l.back.items ≤ l.who-index)
