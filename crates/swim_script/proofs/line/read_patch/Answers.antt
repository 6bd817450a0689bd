use Rattle.std.proofs.Common.{◌≡◌, sym, inr, ◌∙◌, arith}
use Rattle.std.specs.Fmt.{decimal}
use Rattle.std.proofs.lemmas.Result.{err_from_is_err_and}
use Rattle.swim_script.specs.declared.fault.FaultKind.TheVariants as kinds
use Rattle.swim_script.proofs.Arguments.{over_at, over_end, over_hex, over_uncut}
use Rattle.swim_script.proofs.Hex.{refuses_from}
use Rattle.swim_script.proofs.Options.{absent, cut_of}
use Rattle.swim_script.proofs.line.read_patch.Goals as goal

pub returns-in_err-at-clause-none : goal.returns-in_err-at-clause-none
returns-in_err-at-clause-none c =
    let fault = err_from_is_err_and c.from_residual.result c.from_residual.ensures.1 in
    let none = absent c.split_at_byte.result kinds.Argument c.in_err-at.field-0.0 (sym c.ok_or.ensures.value ∙ c.in_err-at.was) c.split_at_byte.ensures.none in
    rw (fault.1, fault.2) (inr (none.0, over_uncut c.args.arguments.now none.1))

pub returns-in_err-at-2-clause-none : goal.returns-in_err-at-2-clause-none
returns-in_err-at-2-clause-none c =
    let fault = err_from_is_err_and c.from_residual-in_err-at-2.result c.from_residual-in_err-at-2.ensures.1 in
    let none = absent c.read_number.result kinds.Argument c.in_err-at-2.field-0.0 (sym c.ok_or-2.ensures.value ∙ c.in_err-at-2.was) c.read_number.ensures.none in
    let cut = cut_of c.args.arguments.now c.split_at_byte.result kinds.Argument _ (sym c.ok_or.ensures.value ∙ c.in_ok-at.was) c.split_at_byte.ensures.parts c.split_at_byte.ensures.first in
    rw (fault.1, fault.2) (inr (none.0, over_at c.args.arguments.now c.in_ok-at.at.now c.in_ok-at.word.now cut.0 cut.1 none.1))

pub returns-in_err-bytes-clause-none : goal.returns-in_err-bytes-clause-none
returns-in_err-bytes-clause-none c =
    let fault = err_from_is_err_and c.from_residual-in_err-bytes.result c.from_residual-in_err-bytes.ensures.1 in
    let cut = cut_of c.args.arguments.now c.split_at_byte.result kinds.Argument _ (sym c.ok_or.ensures.value ∙ c.in_ok-at.was) c.split_at_byte.ensures.parts c.split_at_byte.ensures.first in
    rw (fault.1, fault.2) (refuses_from c.in_err-bytes.field-0.0 (over_hex c.args.arguments.now c.in_ok-at.at.now c.in_ok-at.word.now cut.0 cut.1) c.in_err-bytes.ensures.none)

pub returns-in_err-patch-clause-none : goal.returns-in_err-patch-clause-none
returns-in_err-patch-clause-none c =
    let number : c.in_ok-at.at.now ≡ decimal c.in_ok-at-2.at = grind arith in
    let fault = err_from_is_err_and c.from_residual-in_err-patch.result c.from_residual-in_err-patch.ensures.1 in
    let none = absent c.new.result kinds.Argument c.in_err-patch.field-0.0 (sym c.ok_or-3.ensures.value ∙ c.in_err-patch.was) c.new.ensures.none in
    let cut = cut_of c.args.arguments.now c.split_at_byte.result kinds.Argument _ (sym c.ok_or.ensures.value ∙ c.in_ok-at.was) c.split_at_byte.ensures.parts c.split_at_byte.ensures.first in
    rw (fault.1, fault.2) (inr (none.0, over_end c.args.arguments.now c.in_ok-at.at.now c.in_ok-at.word.now c.in_ok-bytes.bytes.items c.in_ok-at-2.at cut.0 cut.1 number (omega arith) c.in_ok-bytes.ensures.bytes none.1))
