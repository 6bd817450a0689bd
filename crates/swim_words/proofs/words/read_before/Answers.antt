use Rattle.swim_words.proofs.Endpoints.{none_before, not_before}
use Rattle.swim_words.proofs.words.read_before.Goals as goal

pub returns-in_err-word-clause-none : goal.returns-in_err-word-clause-none
returns-in_err-word-clause-none c =
    rw c.from_residual.ensures (none_before c.args.text.now c.args.byte c.in_err-word.ensures.none)

pub returns-in_err-number-clause-none : goal.returns-in_err-number-clause-none
returns-in_err-number-clause-none c =
    let split = c.in_ok-word.ensures in
    rw c.from_residual-in_err-number.ensures
    (not_before c.args.text.now c.in_ok-word.word.now c.in_ok-word.rest.now c.args.byte c.requires.apart split.first split.parts c.in_err-number.ensures.none)
