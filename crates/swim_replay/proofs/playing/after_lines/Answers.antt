use Rattle.swim_replay.proofs.Lines.{lines_next, lines_none}
use Rattle.swim_replay.proofs.playing.after_lines.Goals as goal

pub loop-preserved : goal.loop-preserved
loop-preserved c lines rest fit count is =
    lines_next c.loop.rest.now c.in_ok-after.field-0-0.now c.in_ok-after.after.now c.loop.counter c.args.count rest (c.loop.invariant lines rest fit count is) c.loop-test.true c.in_ok-after.ensures.first c.in_ok-after.ensures.parts

pub returns-in_err-after : goal.returns-in_err-after
returns-in_err-after c lines rest fit count is =
    absurd (lines_none c.loop.rest.now c.loop.counter c.args.count rest (c.loop.invariant lines rest fit count is) c.loop-test.true c.in_err-after.ensures.none)
