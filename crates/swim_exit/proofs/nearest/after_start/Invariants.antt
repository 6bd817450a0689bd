use Rattle.swim_exit.specs.Nearest.{StartAlike}
use Rattle.swim_exit.proofs.nearest.after_start.Given as goal

-- what was passed is the same in both
abbrev pub invariant-loop : goal.invariant-loop
invariant-loop l = StartAlike l.one l.other l.first l.second
