use Rattle.swim_script.proofs.Arguments.{set_none, set_uncut}
use Rattle.swim_script.proofs.line.read_set.Goals as goal

pub returns-in_err-word-clause-none : goal.returns-in_err-word-clause-none
returns-in_err-word-clause-none c = rw c.from_residual.ensures (set_uncut c.args.arguments.now c.in_err-word.ensures.none)

pub returns-in_err-setting-clause-none : goal.returns-in_err-setting-clause-none
returns-in_err-setting-clause-none c =
    let split = c.in_ok-word.ensures in
    rw c.from_residual-in_err-setting.ensures (set_none c.args.arguments.now c.in_ok-word.word.now c.in_ok-word.number.now split.parts split.first c.in_err-setting.ensures.none)
