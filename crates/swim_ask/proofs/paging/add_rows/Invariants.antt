use Rattle.std.proofs.Common.{◌≡◌, ◌+◌, length}
use Rattle.swim_ask.proofs.Rows.{RowsSoFar}
use Rattle.swim_ask.proofs.paging.add_rows.Given as goal

-- so many rows were added, and the others are in what is left
abbrev pub invariant-loop-count : goal.invariant-loop-count
invariant-loop-count l = record {
  long : length l.rows ≡ length l.fn.rows + l.count;
  so_far : RowsSoFar l.lines l.left l.fn.rows l.rows l.count;
}
