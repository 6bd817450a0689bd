use Rattle.std.proofs.Common.{◌≡◌, ◌++◌, take}
use Rattle.swim_join.proofs.news_log.log_all.Given as goal

-- the changes so far
abbrev pub invariant-loop-change : goal.invariant-loop-change
invariant-loop-change g l = l.told ≡ l.initial.told ++ take l.change-index l.changes
