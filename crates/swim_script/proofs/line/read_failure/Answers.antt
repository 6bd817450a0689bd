use Rattle.std.proofs.Common.{arith}
use Rattle.swim_words.proofs.Tables.{IfNone_then}
use Rattle.swim_script.proofs.Arguments.{fail_number, fail_other, fail_uncut}
use Rattle.swim_script.proofs.line.read_failure.Goals as goal

pub returns-in_err-word-clause-none : goal.returns-in_err-word-clause-none
returns-in_err-word-clause-none c = rw c.from_residual.ensures (fail_uncut c.args.arguments.now c.in_err-word.ensures.none)

pub returns-in_err-k-clause-none : goal.returns-in_err-k-clause-none
returns-in_err-k-clause-none c =
    let split = c.in_ok-word.ensures in
    rw c.from_residual-in_err-k.ensures (fail_number c.args.arguments.now c.in_ok-word.word.now c.in_ok-word.number.now split.parts split.first c.in_err-k.ensures.none)

pub returns-clause-none : goal.returns-clause-none
returns-clause-none c =
    let split = c.in_ok-word.ensures in
    IfNone_then c.of.result (fail_other c.args.arguments.now c.in_ok-word.word.now c.in_ok-word.number.now c.in_ok-k.k split.parts split.first c.in_ok-k.ensures.number (omega arith)) c.of.ensures.none
