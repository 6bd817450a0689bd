use Rattle.std.proofs.Common.{◌≡◌, ◌∙◌, ap, arith, length-set, refl, rules}
use Rattle.swim_shell.specs.Counters.{counter_at, counter_name}
use Rattle.swim_ask.proofs.Counted.{all_read, none_left, none_said, one_less, one_read}
use Rattle.swim_ask.proofs.CounterLines.{all_told, line_at, line_names, same_head}
use Rattle.swim_ask.proofs.Statuses.{nothing, something}
use Rattle.swim_ask.proofs.counters.read_counters.Goals as goal

pub loop-place-preserved : goal.loop-place-preserved
loop-place-preserved c =
    let name : c.as_bytes.result.now ≡ counter_name (counter_at c.loop-place.place) = c.as_bytes.ensures.value ∙ c.name.ensures ∙ ap counter_name c.at.ensures in
    record {
      read = one_read line_at c.in_ok-lines.left.now c.loop-place.left.now c.in_ok-count.rest.now c.as_bytes.result.now c.loop-place.values 10 c.loop-place.place c.in_ok-count.count (omega (arith, c.loop-place-test.true, c.loop-place.invariant.long)) c.loop-place.invariant.read c.in_ok-count.ensures.count name refl;
      long = length-set c.loop-place.values c.loop-place.place c.in_ok-count.count ∙ c.loop-place.invariant.long;
      only = one_less line_at c.in_ok-lines.left.now c.loop-place.left.now c.in_ok-count.rest.now c.as_bytes.result.now 30 10 c.loop-place.place c.in_ok-count.count line_names (omega (arith, c.loop-place-test.true)) c.in_ok-count.ensures.small c.loop-place.invariant.only c.in_ok-count.ensures.count name refl;
    }

pub returns-clause-counters : goal.returns-clause-counters
returns-clause-counters c =
    let lines : c.in_ok-lines.lines ≡ 30 = search rules in
    let end = nothing c.loop-place.left.now c.is_empty.result c.is_empty.ensures c.if-not-is_empty.false in
    all_told c.args.answer.now c.in_ok-lines.left.now c.loop-place.values c.in_ok-lines.lines lines c.in_ok-lines.ensures.count
    (all_read line_at c.in_ok-lines.left.now c.loop-place.left.now c.loop-place.values c.loop-place.place (omega (arith, c.loop-place.invariant.long)) end c.loop-place.invariant.read)

-- where there is no such answer

pub returns-then-lines-clause-none : goal.returns-then-lines-clause-none
returns-then-lines-clause-none c = λ values says.
    let same : c.in_ok-lines.lines ≡ 30 = (same_head c.args.answer.now c.in_ok-lines.left.now values c.in_ok-lines.lines c.in_ok-lines.ensures.small c.in_ok-lines.ensures.count says).0 in
    omega arith

pub returns-in_err-count-clause-none : goal.returns-in_err-count-clause-none
returns-in_err-count-clause-none c =
    let name : c.as_bytes.result.now ≡ counter_name (counter_at c.loop-place.place) = c.as_bytes.ensures.value ∙ c.name.ensures ∙ ap counter_name c.at.ensures in
    rw c.from_residual-in_err-count.ensures
    (λ values says. none_said line_at c.in_ok-lines.left.now c.loop-place.left.now c.as_bytes.result.now values 30 10 c.loop-place.place line_names (omega (arith, c.loop-place-test.true)) c.loop-place.invariant.only name refl c.in_err-count.ensures.none
    (same_head c.args.answer.now c.in_ok-lines.left.now values c.in_ok-lines.lines c.in_ok-lines.ensures.small c.in_ok-lines.ensures.count says).1)

pub returns-then-not-is_empty-clause-none : goal.returns-then-not-is_empty-clause-none
returns-then-not-is_empty-clause-none c = λ values says.
    something c.loop-place.left.now c.is_empty.result c.is_empty.ensures c.if-not-is_empty.true
    (none_left line_at c.in_ok-lines.left.now c.loop-place.left.now values 30 c.loop-place.place (omega arith) c.loop-place.invariant.only
    (same_head c.args.answer.now c.in_ok-lines.left.now values c.in_ok-lines.lines c.in_ok-lines.ensures.small c.in_ok-lines.ensures.count says).1)
