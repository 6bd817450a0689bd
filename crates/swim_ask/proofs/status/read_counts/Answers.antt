use Rattle.std.proofs.Common.{◌∙◌, arith, length-set}
use Rattle.swim_ask.specs.Machinery.Counts.{status_at}
use Rattle.swim_ask.proofs.Counted.{all_read, none_said, one_less, one_read}
use Rattle.swim_ask.proofs.Statuses.{nothing, status_names}
use Rattle.swim_ask.proofs.status.read_counts.Goals as goal

pub loop-place-preserved : goal.loop-place-preserved
loop-place-preserved c =
    record {
      read = one_read status_at c.args.text.now c.loop-place.left.now c.in_ok-count.rest.now c.count_at-end.result.0.now c.loop-place.counts c.count_at-end.result.1 c.loop-place.place c.in_ok-count.count (omega (arith, c.loop-place-test.true, c.loop-place.invariant.long)) c.loop-place.invariant.read c.in_ok-count.ensures.count c.count_at-end.ensures.name c.count_at-end.ensures.end;
      long = length-set c.loop-place.counts c.loop-place.place c.in_ok-count.count ∙ c.loop-place.invariant.long;
      only = one_less status_at c.args.text.now c.loop-place.left.now c.in_ok-count.rest.now c.count_at-end.result.0.now 5 c.count_at-end.result.1 c.loop-place.place c.in_ok-count.count status_names (omega (arith, c.loop-place-test.true)) c.in_ok-count.ensures.small c.loop-place.invariant.only c.in_ok-count.ensures.count c.count_at-end.ensures.name c.count_at-end.ensures.end;
    }

pub returns-in_err-count-clause-none : goal.returns-in_err-count-clause-none
returns-in_err-count-clause-none c =
    rw c.from_residual.ensures
    (λ counts. none_said status_at c.args.text.now c.loop-place.left.now c.count_at-end.result.0.now counts 5 c.count_at-end.result.1 c.loop-place.place status_names (omega (arith, c.loop-place-test.true)) c.loop-place.invariant.only c.count_at-end.ensures.name c.count_at-end.ensures.end c.in_err-count.ensures.none)

pub returns-then-is_empty-clause-counts : goal.returns-then-is_empty-clause-counts
returns-then-is_empty-clause-counts c =
    all_read status_at c.args.text.now c.loop-place.left.now c.loop-place.counts c.loop-place.place (omega (arith, c.loop-place.invariant.long)) (nothing c.loop-place.left.now c.is_empty.result c.is_empty.ensures c.if-is_empty.true) c.loop-place.invariant.read
