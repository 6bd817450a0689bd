use Rattle.std.proofs.Common.{sym, inr, ◌∙◌}
use Rattle.std.proofs.lemmas.Result.{err_from_is_err_and}
use Rattle.swim_script.specs.declared.fault.FaultKind.TheVariants as kinds
use Rattle.swim_script.proofs.Arguments.{received_from, received_hex, received_uncut}
use Rattle.swim_script.proofs.Hex.{refuses_from}
use Rattle.swim_script.proofs.Options.{absent, cut_of}
use Rattle.swim_script.proofs.line.read_received.Goals as goal

pub returns-in_err-from-clause-none : goal.returns-in_err-from-clause-none
returns-in_err-from-clause-none c =
    let fault = err_from_is_err_and c.from_residual.result c.from_residual.ensures.1 in
    let none = absent c.split_at_byte.result kinds.Argument c.in_err-from.field-0.0 (sym c.ok_or.ensures.value ∙ c.in_err-from.was) c.split_at_byte.ensures.none in
    rw (fault.1, fault.2) (inr (none.0, received_uncut c.args.arguments.now none.1))

pub returns-in_err-from-2-clause-none : goal.returns-in_err-from-2-clause-none
returns-in_err-from-2-clause-none c =
    let fault = err_from_is_err_and c.from_residual-in_err-from-2.result c.from_residual-in_err-from-2.ensures.1 in
    let none = absent c.read_endpoint.result kinds.Argument c.in_err-from-2.field-0.0 (sym c.ok_or-2.ensures.value ∙ c.in_err-from-2.was) c.read_endpoint.ensures.none in
    let cut = cut_of c.args.arguments.now c.split_at_byte.result kinds.Argument _ (sym c.ok_or.ensures.value ∙ c.in_ok-from.was) c.split_at_byte.ensures.parts c.split_at_byte.ensures.first in
    rw (fault.1, fault.2) (inr (none.0, received_from c.args.arguments.now c.in_ok-from.from.now c.in_ok-from.word.now cut.0 cut.1 none.1))

pub returns-in_err-bytes-clause-none : goal.returns-in_err-bytes-clause-none
returns-in_err-bytes-clause-none c =
    let fault = err_from_is_err_and c.from_residual-in_err-bytes.result c.from_residual-in_err-bytes.ensures.1 in
    let cut = cut_of c.args.arguments.now c.split_at_byte.result kinds.Argument _ (sym c.ok_or.ensures.value ∙ c.in_ok-from.was) c.split_at_byte.ensures.parts c.split_at_byte.ensures.first in
    rw (fault.1, fault.2) (refuses_from c.in_err-bytes.field-0.0 (received_hex c.args.arguments.now c.in_ok-from.from.now c.in_ok-from.word.now cut.0 cut.1) c.in_err-bytes.ensures.none)
