use Rattle.std.proofs.Common.{ℕ, ◌++◌, ap, ◌∙◌, arith}
use Rattle.std.specs.Fmt.{decimal}
use Rattle.swim_shell.proofs.Printing.{byte_short, two}
use Rattle.swim_shell.proofs.printer.add_part.Goals as goal

pub returns-clause-fits : goal.returns-clause-fits
returns-clause-fits c room =
    let short = byte_short c.from.result (omega (arith, c.from.ensures)) in
    let one = c.requires in
    let number = c.add_number.ensures.fits (omega (arith, room, short)) in
    let end = c.add_text.ensures.fits (omega (arith, room, short, one, c.add_number.ensures.most)) in
    two c.args.answer.now.bytes c.add_number.new.answer.bytes c.add_text.new.answer.bytes (decimal c.from.result) c.args.end.now number end
    ∙ ap (λ (n : ℕ). c.args.answer.now.bytes ++ (decimal n ++ c.args.end.now)) c.from.ensures

pub returns-clause-most : goal.returns-clause-most
returns-clause-most c =
    let short = byte_short c.from.result (omega (arith, c.from.ensures)) in
    let one = c.requires in
    omega (arith, short, one, c.add_number.ensures.most, c.add_text.ensures.most)
