use Rattle.std.proofs.Common.{arith}
use Rattle.swim_words.proofs.Digits.{at_least, first_digit, not_empty, not_first, not_next, not_zero, one_more}
use Rattle.swim_words.proofs.words.read_number.Goals as goal

pub loop-byte-init : goal.loop-byte-init
loop-byte-init c =
    let digit = c.in_ok-number.ensures.digit in
    (first_digit c.args.text.now c.in_ok-first.others.now c.in_ok-first.first.now c.in_ok-number.number c.in_ok-first.ensures.cases.0 digit.0 digit.1, omega arith)

pub loop-byte-preserved : goal.loop-byte-preserved
loop-byte-preserved c =
    let digit = c.in_ok-read_digit.ensures.digit in (
      one_more c.args.text.now c.in_ok-first.others.now c.in_ok-first.first.now c.loop-byte.byte-index c.loop-byte.number c.in_ok-read_digit.field-0 c.in_ok-number-2.number
          c.in_ok-first.ensures.cases.0 (omega arith) c.loop-byte.invariant.0 (omega arith) digit.0 digit.1 (omega (arith, c.in_ok-checked_mul.ensures, c.in_ok-number-2.ensures)) (omega arith),
      omega arith,
    )

pub returns-in_err-first-clause-none : goal.returns-in_err-first-clause-none
returns-in_err-first-clause-none c =
    rw c.from_residual.ensures (λ number. not_empty c.args.text.now number c.in_err-first.ensures.cases)

pub returns-in_err-number-clause-none : goal.returns-in_err-number-clause-none
returns-in_err-number-clause-none c =
    rw c.from_residual-in_err-number.ensures
    (λ number. not_first c.args.text.now c.in_ok-first.others.now c.in_ok-first.first.now number c.in_ok-first.ensures.cases.0 c.in_err-number.ensures.none)

pub returns-then-number-eq0-clause-none : goal.returns-then-number-eq0-clause-none
returns-then-number-eq0-clause-none c = λ number.
    not_zero c.args.text.now c.in_ok-first.others.now c.in_ok-first.first.now c.loop-byte.byte-index c.loop-byte.number number c.in_ok-first.ensures.cases.0 (omega arith) c.loop-byte.invariant.0 c.if-number-eq0.true

pub returns-in_err-checked_mul-clause-none : goal.returns-in_err-checked_mul-clause-none
returns-in_err-checked_mul-clause-none c =
    rw c.from_residual-in_err-checked_mul.ensures
    (λ number fits says.
    let least = at_least c.args.text.now c.in_ok-first.others.now c.in_ok-first.first.now c.loop-byte.byte-index c.loop-byte.number number c.in_ok-first.ensures.cases.0 (omega arith) c.loop-byte.invariant.0 (omega arith) fits says in
    omega (arith, c.in_err-checked_mul.ensures))

pub returns-in_err-read_digit-clause-none : goal.returns-in_err-read_digit-clause-none
returns-in_err-read_digit-clause-none c =
    rw c.from_residual-in_err-read_digit.ensures
    (λ number. not_next c.args.text.now c.in_ok-first.others.now c.in_ok-first.first.now c.loop-byte.byte-index number c.in_ok-first.ensures.cases.0 (omega arith) c.in_err-read_digit.ensures.none)

pub returns-in_err-number-2-clause-none : goal.returns-in_err-number-2-clause-none
returns-in_err-number-2-clause-none c =
    rw c.from_residual-in_err-number-2.ensures
    (λ number fits says.
    let least = at_least c.args.text.now c.in_ok-first.others.now c.in_ok-first.first.now c.loop-byte.byte-index c.loop-byte.number number c.in_ok-first.ensures.cases.0 (omega arith) c.loop-byte.invariant.0 (omega arith) fits says in
    let digit = c.in_ok-read_digit.ensures.digit in
    omega (arith, c.in_err-number-2.ensures, c.in_ok-checked_mul.ensures, digit))
