use Rattle.std.proofs.Common.{arith}
use Rattle.std.proofs.lemmas.List.Elements.{All-map}
use Rattle.swim_rules.specs.declared.table.Row.{Row}
use Rattle.swim_record.specs.Blocks.{IsFit}
use Rattle.swim_record.specs.Recording.{row_line}
use Rattle.swim_replay.proofs.Ranges.{all-one_more, all-walked}
use Rattle.swim_replay.proofs.recorded.rows_are_fit.Goals as goal

pub loop-row-preserved : goal.loop-row-preserved
loop-row-preserved c = all-one_more (λ (r : Row). IsFit (row_line r)) c.args.rows.now c.loop-row.row-index c.row-item.result (omega arith) c.row-item.is c.loop-row.invariant c.row_is_fit.ensures

pub returns : goal.returns
returns c = All-map IsFit row_line c.args.rows.now (all-walked (λ (r : Row). IsFit (row_line r)) c.args.rows.now c.loop-row.row-index (omega arith) c.loop-row.invariant)
