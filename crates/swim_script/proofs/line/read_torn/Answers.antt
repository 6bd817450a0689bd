use Rattle.std.proofs.Common.{arith}
use Rattle.std.proofs.lemmas.Grind.{common_steps}
use Rattle.swim_script.proofs.Arguments.{tear_other, tear_uncut}
use Rattle.swim_script.proofs.line.read_torn.Goals as goal

pub returns-in_err-word-clause-none : goal.returns-in_err-word-clause-none
returns-in_err-word-clause-none c = rw c.from_residual.ensures (tear_uncut c.args.arguments.now c.in_err-word.ensures.none)

pub returns-then-ne-clause-none : goal.returns-then-ne-clause-none
returns-then-ne-clause-none c =
    let split = c.in_ok-word.ensures in
    tear_other c.args.arguments.now c.in_ok-word.word.now c.in_ok-word.number.now split.parts split.first (λ same. grind (arith, common_steps))
