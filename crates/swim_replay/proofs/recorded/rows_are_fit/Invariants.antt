use Rattle.std.proofs.Common.{take}
use Rattle.std.specs.List.{All}
use Rattle.swim_rules.specs.declared.table.Row.{Row}
use Rattle.swim_record.specs.Blocks.{IsFit}
use Rattle.swim_record.specs.Recording.{row_line}
use Rattle.swim_replay.proofs.recorded.rows_are_fit.Given as goal

-- the rows so far
abbrev pub invariant-loop-row : goal.invariant-loop-row
invariant-loop-row l = All (λ (r : Row). IsFit (row_line r)) (take l.row-index l.rows)
