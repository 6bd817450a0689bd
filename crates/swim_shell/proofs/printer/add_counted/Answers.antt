use Rattle.std.proofs.Common.{arith}
use Rattle.std.specs.Fmt.{decimal}
use Rattle.swim_shell.proofs.Printing.{number_short, two}
use Rattle.swim_shell.proofs.printer.add_counted.Goals as goal

pub returns-clause-fits : goal.returns-clause-fits
returns-clause-fits c room =
    let short = number_short c.args.number (omega arith) in
    let name = c.add_text.ensures.fits (omega (arith, room)) in
    let number = c.add_number.ensures.fits (omega (arith, room, short, c.add_text.ensures.most)) in
    two c.args.answer.now.bytes c.add_text.new.answer.bytes c.add_number.new.answer.bytes c.args.name.now (decimal c.args.number) name number

pub returns-clause-most : goal.returns-clause-most
returns-clause-most c =
    let short = number_short c.args.number (omega arith) in
    omega (arith, short, c.add_text.ensures.most, c.add_number.ensures.most)
