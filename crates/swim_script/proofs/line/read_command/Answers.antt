use Rattle.std.proofs.Common.{sym, inr, ◌∙◌}
use Rattle.std.proofs.lemmas.Result.{err_from_is_err_and}
use Rattle.swim_script.specs.declared.fault.FaultKind.TheVariants as kinds
use Rattle.swim_script.proofs.Arguments.{alone_unknown, word_unknown}
use Rattle.swim_script.proofs.Options.{absent}
use Rattle.swim_script.proofs.line.read_command.Goals as goal

pub returns-in_err-keyword-clause-fault : goal.returns-in_err-keyword-clause-fault
returns-in_err-keyword-clause-fault c =
    let fault = err_from_is_err_and c.from_residual.result c.from_residual.ensures.1 in
    let none = absent c.of.result kinds.Command c.in_err-keyword.field-0.0 (sym c.ok_or.ensures.value ∙ c.in_err-keyword.was) c.of.ensures.none in
    rw (fault.1, fault.2, none.0) (inr (alone_unknown c.args.text.now c.in_default.ensures.none none.1))

pub returns-in_err-keyword-2-clause-fault : goal.returns-in_err-keyword-2-clause-fault
returns-in_err-keyword-2-clause-fault c =
    let fault = err_from_is_err_and c.from_residual-in_err-keyword-2.result c.from_residual-in_err-keyword-2.ensures.1 in
    let none = absent c.of-2.result kinds.Command c.in_err-keyword-2.field-0.0 (sym c.ok_or-2.ensures.value ∙ c.in_err-keyword-2.was) c.of-2.ensures.none in
    let split = c.in-Some.ensures in
    rw (fault.1, fault.2, none.0) (inr (word_unknown c.args.text.now c.in-Some.word.now c.in-Some.arguments.now split.parts split.first none.1))
