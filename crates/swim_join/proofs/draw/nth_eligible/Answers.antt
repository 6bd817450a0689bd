use Rattle.swim_join.proofs.Asking.{eligible_at}
use Rattle.swim_join.proofs.draw.nth_eligible.Goals as goal

pub returns-then-left-eq0-clause-drawn : goal.returns-then-left-eq0-clause-drawn
returns-then-left-eq0-clause-drawn c = (eligible_at c.args.rows.now c.loop-row.row-index c.row-item.result c.loop-row-test.true c.row-item.is (c.is_eligible.ensures.kind c.if-is_eligible.true), c.is_eligible.ensures.other c.if-is_eligible.true)
