use Rattle.std.proofs.Common.{ℕ, ◌/◌, ◌%◌, ◌^◌, ◌<◌, ◌++◌, List, append_assoc, ap, sym, ◌∙◌, arith}
use Rattle.std.specs.Fmt.{decimal}
use Rattle.swim_shell.proofs.Printing.{decimal_more, length-decimal_more, length-digit}
use Rattle.swim_shell.proofs.printer.+add_number.Goals as goal

pub returns-then-number-lt10-clause-fits : goal.returns-then-number-lt10-clause-fits
returns-then-number-lt10-clause-fits t c room =
    let one = length-digit c.args.number c.if-number-lt10.true in
    c.add_digit.ensures.fits (omega (arith, one, room))

pub returns-then-number-lt10-clause-most : goal.returns-then-number-lt10-clause-most
returns-then-number-lt10-clause-most t c =
    let one = length-digit c.args.number c.if-number-lt10.true in
    omega (arith, one, c.add_digit.ensures.most)

pub returns-clause-fits : goal.returns-clause-fits
returns-clause-fits t c room =
    let n = c.args.number in
    let old = c.args.answer.now.bytes in
    let fits : n < 2 ^ 64 = omega arith in
    let long = length-decimal_more n c.if-number-lt10.false fits in
    let front = c.add_number.ensures.fits (omega (arith, long, room)) in
    let back = c.add_digit-2.ensures.fits (omega (arith, long, room, c.add_number.ensures.most)) in
    back
    ∙ ap (λ (w : List ℕ). w ++ decimal (n % 10)) front
    ∙ append_assoc old (decimal (n / 10)) (decimal (n % 10))
    ∙ ap (λ (d : List ℕ). old ++ d) (sym (decimal_more n c.if-number-lt10.false fits))

pub returns-clause-most : goal.returns-clause-most
returns-clause-most t c =
    let fits : c.args.number < 2 ^ 64 = omega arith in
    let long = length-decimal_more c.args.number c.if-number-lt10.false fits in
    omega (arith, long, c.add_number.ensures.most, c.add_digit-2.ensures.most)
