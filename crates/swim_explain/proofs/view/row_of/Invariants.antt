use Rattle.std.proofs.Common.{◌≡◌, drop}
use Rattle.swim_rules.specs.Rows.{row_of}
use Rattle.swim_explain.proofs.view.row_of.Given as goal

-- no row so far is about the member
abbrev pub invariant-loop-row : goal.invariant-loop-row
invariant-loop-row l = row_of (drop l.row-index l.rows) l.who ≡ row_of l.rows l.who
