use Rattle.std.proofs.Common.{arith}
use Rattle.swim_words.proofs.Digits.{not_within}
use Rattle.swim_words.proofs.words.read_within.Goals as goal

pub returns-then-number-least-clause-none : goal.returns-then-number-least-clause-none
returns-then-number-least-clause-none c =
    not_within c.args.text.now c.args.least c.args.most c.in_ok-number.number (omega arith) (omega arith) c.in_ok-number.ensures.number (λ low high. omega arith)
