use Rattle.std.proofs.Common.{◌≡◌, ◌≤◌, length, take}
use Rattle.swim_join.specs.Searches.{but_for}
use Rattle.swim_join.proofs.sought.but_for.Given as goal

-- those of the first so many
abbrev pub invariant-loop-member : goal.invariant-loop-member
invariant-loop-member l =
    (l.rest.items ≡ but_for l.who (take l.member-index l.sought)) × (length l.rest.items ≤ l.member-index)
