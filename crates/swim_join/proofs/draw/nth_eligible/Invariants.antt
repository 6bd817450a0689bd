use Rattle.std.proofs.Common.{◌≡◌, drop}
use Rattle.swim_join.specs.Joins.{nth_eligible}
use Rattle.swim_join.proofs.draw.nth_eligible.Given as goal

-- of the rows that are left it is the one after so many others
abbrev pub invariant-loop-row : goal.invariant-loop-row
invariant-loop-row l = nth_eligible l.me l.rows l.nth ≡ nth_eligible l.me (drop l.row-index l.rows) l.left
