use Rattle.std.proofs.Common.{◌<◌, length, ap, ◌∙◌, ◌++◌, arith}
use Rattle.swim_shell.proofs.Printing.{digit_text, gone_well}
use Rattle.swim_shell.proofs.printer.add_digit.Goals as goal

pub returns-clause-fits : goal.returns-clause-fits
returns-clause-fits c room =
    let small : c.from.result < 128 = omega (arith, c.from.ensures) in
    let one = c.try_push.ensures.ascii small in
    let long = ap length one in
    let went = c.try_push.ensures.variant.1 (omega (arith, long)) in
    gone_well c.try_push.result _ c.try_push.ensures.ok went
    ∙ ap (λ e. c.args.answer.now.bytes ++ e) (one ∙ digit_text c.from.result c.args.digit (omega (arith, c.from.ensures)) c.requires)
