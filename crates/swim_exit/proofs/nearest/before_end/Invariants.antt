use Rattle.swim_exit.specs.Nearest.{EndAlike}
use Rattle.swim_exit.proofs.nearest.before_end.Given as goal

-- what was passed is the same in both
abbrev pub invariant-loop : goal.invariant-loop
invariant-loop l = EndAlike l.one l.other l.first l.second
