use Rattle.std.proofs.Common.{◌≡◌, drop}
use Rattle.swim_member.specs.Resuming.{are_ascending}
use Rattle.swim_member.proofs.resume.are_ascending.Given as goal

-- the rows so far ascend to the last of them
abbrev pub invariant-loop-row : goal.invariant-loop-row
invariant-loop-row l = are_ascending 0 l.rows ≡ are_ascending l.last (drop l.row-index l.rows)
