use Rattle.std.proofs.Common.{List, subst, sym}
use Rattle.swim_words.proofs.Tables.{IfNone_then}
use Rattle.swim_record.specs.declared.argument.Argument.{Argument}
use Rattle.swim_record.specs.EraTimes.{time_numbers}
use Rattle.swim_record.specs.Text.{SaysArguments}
use Rattle.swim_record.proofs.EraTimes.{IfSome_then, few_numbers, none_again, says_again, time_parts}
use Rattle.swim_record.proofs.time.time_of.Goals as goal

pub returns-then-not-is_clock-clause-none : goal.returns-then-not-is_clock-clause-none
returns-then-not-is_clock-clause-none c t says =
    c.is_clock.ensures.no c.if-not-is_clock.true (time_parts c.args.line.now c.first_word.result.0.now c.first_word.result.1.now t c.first_word.ensures.parts c.first_word.ensures.first c.first_word.ensures.rest says).0

pub returns-in_err-words-clause-none : goal.returns-in_err-words-clause-none
returns-in_err-words-clause-none c =
    rw c.from_residual.ensures (λ t says. c.in_err-words.ensures.none (time_numbers t) ((time_parts c.args.line.now c.first_word.result.0.now c.first_word.result.1.now t c.first_word.ensures.parts c.first_word.ensures.first c.first_word.ensures.rest says).1, few_numbers t))

pub returns-clause-time : goal.returns-clause-time
returns-clause-time c =
    let said = subst (λ (args : List Argument). SaysArguments c.first_word.result.1.now args) (sym c.deref.ensures.0) c.in_ok-words.ensures.arguments in
    IfSome_then c.of_numbers.result (λ t same. says_again c.args.line.now c.first_word.result.0.now c.first_word.result.1.now c.deref.result.now t c.first_word.ensures.parts (c.is_clock.ensures.yes c.if-not-is_clock.false) said same) c.of_numbers.ensures.time

pub returns-clause-none : goal.returns-clause-none
returns-clause-none c =
    let said = subst (λ (args : List Argument). SaysArguments c.first_word.result.1.now args) (sym c.deref.ensures.0) c.in_ok-words.ensures.arguments in
    IfNone_then c.of_numbers.result (none_again c.args.line.now c.first_word.result.0.now c.first_word.result.1.now c.deref.result.now c.first_word.ensures.parts c.first_word.ensures.first c.first_word.ensures.rest said) c.of_numbers.ensures.none
