use Rattle.std.proofs.Common.{List, subst, sym}
use Rattle.swim_words.proofs.Tables.{IfNone_then}
use Rattle.swim_record.specs.declared.argument.Argument.{Argument}
use Rattle.swim_record.specs.Lines.{arguments_of, head_in}
use Rattle.swim_record.specs.Text.{SaysArguments}
use Rattle.swim_record.proofs.Backs.{read_back}
use Rattle.swim_record.proofs.Texts.{few_arguments, line_none, line_parts}
use Rattle.swim_record.proofs.line.read_line.Goals as goal

pub returns-in_err-head-clause-none : goal.returns-in_err-head-clause-none
returns-in_err-head-clause-none c =
    rw c.from_residual.ensures (λ l says. c.in_err-head.ensures.none (head_in l) (line_parts c.args.text.now c.first_word.result.0.now c.first_word.result.1.now l c.first_word.ensures.parts c.first_word.ensures.first c.first_word.ensures.rest says).0)

pub returns-in_err-arguments-clause-none : goal.returns-in_err-arguments-clause-none
returns-in_err-arguments-clause-none c =
    rw c.from_residual-in_err-arguments.ensures (λ l says. c.in_err-arguments.ensures.none (arguments_of l) ((line_parts c.args.text.now c.first_word.result.0.now c.first_word.result.1.now l c.first_word.ensures.parts c.first_word.ensures.first c.first_word.ensures.rest says).1, few_arguments l))

pub returns-clause-none : goal.returns-clause-none
returns-clause-none c =
    IfNone_then c.of-2.result (line_none c.args.text.now c.first_word.result.0.now c.first_word.result.1.now c.in_ok-head.head c.deref.result.now c.first_word.ensures.parts c.first_word.ensures.first c.first_word.ensures.rest c.in_ok-head.ensures.head (subst (λ (args : List Argument). SaysArguments c.first_word.result.1.now args) (sym c.deref.ensures.0) c.in_ok-arguments.ensures.arguments)) c.of-2.ensures.none

pub returns-in_err-head-clause-back : goal.returns-in_err-head-clause-back
returns-in_err-head-clause-back c l says =
    absurd (c.in_err-head.ensures.none (head_in l) (line_parts c.args.text.now c.first_word.result.0.now c.first_word.result.1.now l c.first_word.ensures.parts c.first_word.ensures.first c.first_word.ensures.rest says).0)

pub returns-clause-back : goal.returns-clause-back
returns-clause-back c =
    let rest = c.first_word.result.1.now in
    let said = subst (λ (args : List Argument). SaysArguments rest args) (sym c.deref.ensures.0) c.in_ok-arguments.ensures.arguments in
    let none = IfNone_then c.of-2.result (line_none c.args.text.now c.first_word.result.0.now rest c.in_ok-head.head c.deref.result.now c.first_word.ensures.parts c.first_word.ensures.first c.first_word.ensures.rest c.in_ok-head.ensures.head said) c.of-2.ensures.none in
    read_back c.of-2.result c.args.text.now c.first_word.result.0.now rest c.in_ok-head.head c.deref.result.now c.first_word.ensures.parts c.in_ok-head.ensures.head said c.of-2.ensures.line none
