use Rattle.std.proofs.Common.{◌∙◌}
use Rattle.std.specs.Fmt.{decimal}
use Rattle.swim_words.specs.Words.{split_by}
use Rattle.swim_ask.proofs.Counts.{cut_text, no_count, no_number}
use Rattle.swim_ask.proofs.status.read_count.Goals as goal

pub returns-in_err-rest-clause-none : goal.returns-in_err-rest-clause-none
returns-in_err-rest-clause-none c =
    rw c.from_residual.ensures
    (λ lacks apart count rest fits says. c.in_err-rest.ensures.none lacks (split_by c.args.end (decimal count) rest) (says ∙ cut_text c.args.name.now count c.args.end rest))

pub returns-in_err-word-clause-none : goal.returns-in_err-word-clause-none
returns-in_err-word-clause-none c =
    rw c.from_residual-in_err-word.ensures
    (λ lacks apart count rest fits. no_count c.args.text.now c.args.name.now c.in_ok-rest.rest.now rest c.args.end count c.in_ok-rest.ensures.rest c.in_err-word.ensures.none)

pub returns-in_err-count-clause-none : goal.returns-in_err-count-clause-none
returns-in_err-count-clause-none c =
    rw c.from_residual-in_err-count.ensures
    (λ lacks apart count rest fits. no_number c.args.text.now c.args.name.now c.in_ok-rest.rest.now c.in_ok-word.word.now c.in_ok-word.after.now rest c.args.end count c.in_ok-rest.ensures.rest c.in_ok-word.ensures.parts c.in_ok-word.ensures.first c.in_err-count.ensures.none apart fits)
