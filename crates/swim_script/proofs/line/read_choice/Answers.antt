use Rattle.std.proofs.Common.{refl, sym, inr, ◌∙◌, arith}
use Rattle.std.specs.Prelude.{◌≢◌, codes}
use Rattle.std.proofs.lemmas.Grind.{common_steps}
use Rattle.std.proofs.lemmas.Result.{err_from_is_err_and}
use Rattle.swim_script.specs.declared.fault.FaultKind.TheVariants as kinds
use Rattle.swim_script.proofs.Arguments.{fill_other, fill_uncut}
use Rattle.swim_script.proofs.Options.{absent, cut_of}
use Rattle.swim_script.proofs.line.read_choice.Goals as goal

pub returns-in_err-fill-clause-none : goal.returns-in_err-fill-clause-none
returns-in_err-fill-clause-none c =
    let keep : c.args.arguments.now ≢ codes "keep" = λ same. grind (arith, common_steps) in
    let dropped : c.args.arguments.now ≢ codes "drop" = λ same. grind (arith, common_steps) in
    let fault = err_from_is_err_and c.from_residual.result c.from_residual.ensures.1 in
    let none = absent c.split_at_byte.result kinds.Argument c.in_err-fill.field-0.0 (sym c.ok_or.ensures.value ∙ c.in_err-fill.was) c.split_at_byte.ensures.none in
    rw (fault.1, fault.2) (inr (none.0, fill_uncut c.args.arguments.now keep dropped none.1))

pub returns-then-ne-clause-none : goal.returns-then-ne-clause-none
returns-then-ne-clause-none c =
    let cut = cut_of c.args.arguments.now c.split_at_byte.result kinds.Argument _ (sym c.ok_or.ensures.value ∙ c.in_ok-fill.was) c.split_at_byte.ensures.parts c.split_at_byte.ensures.first in
    inr (refl, fill_other c.args.arguments.now c.in_ok-fill.fill.now c.in_ok-fill.word.now (λ same. grind (arith, common_steps)) (λ same. grind (arith, common_steps)) cut.0 cut.1 (λ same. grind (arith, common_steps)))
