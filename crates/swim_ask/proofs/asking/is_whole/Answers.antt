use Rattle.std.proofs.Common.{◌==◌, arith}
use Rattle.std.proofs.lemmas.Bool.{false≢true}
use Rattle.std.proofs.lemmas.List.Sums.{count_by-le-length}
use Rattle.swim_ask.proofs.Wholes.{not_whole, whole_by}
use Rattle.swim_ask.proofs.asking.is_whole.Goals as goal

pub returns-in-None : goal.returns-in-None
returns-in-None c = (λ test. absurd (false≢true test), λ whole. absurd (not_whole c.args.line.now c.args.answer.now c.in-None.ensures.none whole))

pub returns-in-Some : goal.returns-in-Some
returns-in-Some c =
    let wanted = c.in-Some.ensures.wanted in
    whole_by c.args.line.now c.args.answer.now wanted.0 c.in-Some.wanted c.count_ends.result wanted.1 wanted.2 c.count_ends.ensures
    (omega (arith, c.count_ends.ensures, count_by-le-length (λ byte. byte == 10) c.args.answer.now))
