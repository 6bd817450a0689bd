use Rattle.swim_record.proofs.Blocks.{front_is, front_none, front_other}
use Rattle.swim_record.proofs.block.front_line.Goals as goal

pub returns-in_err-word-clause-none : goal.returns-in_err-word-clause-none
returns-in_err-word-clause-none c = rw c.from_residual.ensures (front_none c.args.text.now c.in_err-word.ensures.none)

pub returns-in_err-line-clause-none : goal.returns-in_err-line-clause-none
returns-in_err-line-clause-none c =
    rw c.from_residual-in_err-line.ensures (front_other c.args.text.now c.in_ok-word.word.now c.in_ok-word.rest.now c.in_ok-word.ensures.parts c.in_ok-word.ensures.first c.in_err-line.ensures.none)

pub returns-clause-line : goal.returns-clause-line
returns-clause-line c =
    front_is c.args.text.now c.in_ok-word.word.now c.in_ok-word.rest.now c.in_ok-line.line c.in_ok-word.ensures.parts c.in_ok-line.ensures.line
