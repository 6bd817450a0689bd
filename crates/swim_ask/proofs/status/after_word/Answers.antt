use Rattle.std.proofs.Common.{rules}
use Rattle.std.specs.Prelude.{◌≢◌}
use Rattle.swim_words.proofs.Splits.{no_split}
use Rattle.swim_ask.proofs.Counts.{other_word}
use Rattle.swim_ask.proofs.status.after_word.Goals as goal

pub returns-in_err-first-clause-none : goal.returns-in_err-first-clause-none
returns-in_err-first-clause-none c =
    rw c.from_residual.ensures
    (λ lacks rest. no_split 32 c.args.word.now rest c.args.text.now c.in_err-first.ensures.none)

pub returns-else-eq-clause-none : goal.returns-else-eq-clause-none
returns-else-eq-clause-none c = λ lacks rest.
    let apart : c.in_ok-first.first.now ≢ c.args.word.now = search rules in
    other_word c.args.text.now c.in_ok-first.first.now c.in_ok-first.rest.now c.args.word.now rest c.in_ok-first.ensures.parts c.in_ok-first.ensures.first apart lacks
