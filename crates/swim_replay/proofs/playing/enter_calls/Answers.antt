use Rattle.std.proofs.Common.{sym, ◌∙◌}
use Rattle.std.proofs.lemmas.Result.{err_from_is_err_and}
use Rattle.swim_replay.proofs.Entering.{ahead_all, ahead_next, ahead_one, none_left, some_left}
use Rattle.swim_replay.proofs.playing.enter_calls.Goals as goal

pub returns-in_err-left-clause-back : goal.returns-in_err-left-clause-back
returns-in_err-left-clause-back c entries first =
    let left = c.loop-left.left in
    let one = ahead_one c.args.era.now c.loop-left.era left.text.now left.granted entries (some_left left.text.now (sym c.is_empty.ensures ∙ c.loop-left-test.true)) (c.loop-left.invariant.back entries first) in
    let p = err_from_is_err_and c.from_residual.result c.from_residual.ensures.1 in
    rw (p.1, p.2) (c.in_err-left.ensures.back one.e one.others one.come)

pub loop-left-preserved : goal.loop-left-preserved
loop-left-preserved c = record {
  base = c.in_ok-left.ensures.base ∙ c.loop-left.invariant.base;
  back = λ entries first.
      let left = c.loop-left.left in
      let one = ahead_one c.args.era.now c.loop-left.era left.text.now left.granted entries (some_left left.text.now (sym c.is_empty.ensures ∙ c.loop-left-test.true)) (c.loop-left.invariant.back entries first) in
      let next = c.in_ok-left.ensures.back one.e one.others one.come in
      ahead_next c.args.era.now c.loop-left.era c.enter_next.new.era c.in_ok-left.left.text.now c.in_ok-left.left.granted entries one.e one.others one.whole next.1 next.0;
}

pub returns-clause-back : goal.returns-clause-back
returns-clause-back c entries first =
    let left = c.loop-left.left in
    ahead_all c.args.era.now c.loop-left.era left.text.now left.granted entries (none_left left.text.now (sym c.is_empty.ensures ∙ c.loop-left-test.false)) (c.loop-left.invariant.back entries first)
