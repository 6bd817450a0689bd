use Rattle.std.proofs.Common.{get_or, rules}
use Rattle.swim_member.specs.Texts.{phase_word}
use Rattle.swim_words.proofs.Splits.{no_split}
use Rattle.swim_ask.specs.Machinery.Counts.{counts_from, status_at}
use Rattle.swim_ask.proofs.Statuses.{counts_in, counts_of, five, one_line, phase_in}
use Rattle.swim_ask.proofs.status.read_status.Goals as goal

pub returns-in_err-phase-clause-none : goal.returns-in_err-phase-clause-none
returns-in_err-phase-clause-none c =
    rw c.from_residual-in_err-phase.ensures
    (λ s says. no_split 32 (phase_word s.phase) (counts_from status_at 0 (counts_of s)) c.in_ok-rest.rest.now c.in_err-phase.ensures.none (phase_in c.args.answer.now c.in_ok-rest.rest.now s c.in_ok-rest.ensures.rest says))

pub returns-in_err-phase-2-clause-none : goal.returns-in_err-phase-2-clause-none
returns-in_err-phase-2-clause-none c =
    rw c.from_residual-in_err-phase-2.ensures
    (λ s says. c.in_err-phase-2.ensures.none s.phase (counts_in c.args.answer.now c.in_ok-rest.rest.now c.in_ok-phase.phase.now c.in_ok-phase.rest.now s c.in_ok-rest.ensures.rest c.in_ok-phase.ensures.first c.in_ok-phase.ensures.parts says).0)

pub returns-in_err-number-clause-none : goal.returns-in_err-number-clause-none
returns-in_err-number-clause-none c =
    rw c.from_residual-in_err-number.ensures
    (λ s says. c.in_err-number.ensures.none (counts_of s) (counts_in c.args.answer.now c.in_ok-rest.rest.now c.in_ok-phase.phase.now c.in_ok-phase.rest.now s c.in_ok-rest.ensures.rest c.in_ok-phase.ensures.first c.in_ok-phase.ensures.parts says).1)

pub returns-clause-status : goal.returns-clause-status
returns-clause-status c =
    let counts = c.in_ok-number.field-0 in
    rw (c.in_ok-rest.ensures.rest, c.in_ok-phase.ensures.parts, c.in_ok-phase-2.ensures.phase, c.in_ok-number.ensures.counts, five counts (search rules))
    (one_line (record {
      phase = c.in_ok-phase-2.phase;
      number = get_or counts 0 0;
      alive = get_or counts 1 0;
      suspect = get_or counts 2 0;
      confirmed = get_or counts 3 0;
      length = get_or counts 4 0;
    }))
