use Rattle.std.proofs.Common.{◌++◌, ◌∷◌, ◌∙◌, List, ℕ, ap}
use Rattle.swim_record.proofs.EraTimes.{front_time, no_time, same_time}
use Rattle.swim_record.proofs.time.read_time.Goals as goal

pub returns-in_err-line-clause-back : goal.returns-in_err-line-clause-back
returns-in_err-line-clause-back c t rest is says = absurd (no_time c.args.text.now t rest c.in_err-line.ensures.none says)

pub returns-in_err-time-clause-back : goal.returns-in_err-time-clause-back
returns-in_err-time-clause-back c t rest is says =
    let cut = front_time c.args.text.now c.in_ok-line.line.now c.in_ok-line.rest.now t rest c.in_ok-line.ensures.parts c.in_ok-line.ensures.first is says in
    absurd (c.in_err-time.ensures.none t (cut.0, is))

pub returns-clause-time : goal.returns-clause-time
returns-clause-time c = c.in_ok-line.ensures.parts ∙ ap (λ (line : List ℕ). line ++ 10 ∷ c.in_ok-line.rest.now) c.in_ok-time.ensures.time.0

pub returns-clause-back : goal.returns-clause-back
returns-clause-back c t rest is says =
    let cut = front_time c.args.text.now c.in_ok-line.line.now c.in_ok-line.rest.now t rest c.in_ok-line.ensures.parts c.in_ok-line.ensures.first is says in
    (same_time c.in_ok-line.line.now c.in_ok-time.time t c.in_ok-time.ensures.time (cut.0, is), cut.1)
