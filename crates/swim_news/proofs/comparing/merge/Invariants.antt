use Rattle.std.proofs.Common.{◌+◌, ◌≤◌, length}
use Rattle.swim_news.proofs.Merging.{Merging}
use Rattle.swim_news.proofs.comparing.merge.Given as goal

-- what was merged so far, with room for a change for each row that is left
abbrev pub invariant-loop-change : goal.invariant-loop-change
invariant-loop-change l =
    Merging l.initial.old l.initial.new l.changes.items l.olds l.news × (length l.changes.items + length l.olds + length l.news ≤ 514)

-- the rows that are left
abbrev pub decreases-loop-change : goal.decreases-loop-change
decreases-loop-change l = length l.olds + length l.news
