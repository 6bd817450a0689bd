use Rattle.std.proofs.Common.{rules, ◌≡◌, ◌++◌, List, Option, ap, sym, ◌∙◌, inl, inr}
use Rattle.std.specs.Prelude.{Err}
use Rattle.swim_node.specs.declared.entry.Entry.{Entry}
use Rattle.swim_node.specs.History.{Base}
use Rattle.swim_record.specs.Recording.{calls_text, lines_text, recording_text}
use Rattle.swim_record.specs.declared.time.EraTime.{EraTime}
use Rattle.swim_replay.specs.Recorded.{base_lines}
use Rattle.swim_replay.proofs.Lines.{body}
use Rattle.swim_replay.proofs.playing.play_from.Goals as goal

pub returns-in_err-head-clause-back : goal.returns-in_err-head-clause-back
returns-in_err-head-clause-back c time b entries fits is says =
    absurd (c.in_err-head.ensures time (lines_text (base_lines b) ++ calls_text b.granted entries) fits (says ∙ body time b entries))

pub returns-in-Err-clause-back : goal.returns-in-Err-clause-back
returns-in-Err-clause-back c time b entries fits is says =
    let head = c.in_ok-head.ensures time (lines_text (base_lines b) ++ calls_text b.granted entries) fits (says ∙ body time b entries) in
    c.below.ensures ∙ c.in-Err.ensures.back b entries is head.1

pub returns-clause-back : goal.returns-clause-back
returns-clause-back c time b entries fits is says =
    let head = c.in_ok-head.ensures time (lines_text (base_lines b) ++ calls_text b.granted entries) fits (says ∙ body time b entries) in
    let played = c.in-Ok.ensures.back b entries is head.1 in
    (head.0, c.in-Ok.ensures.base ∙ played.0, played.1)

pub returns-in_err-check_text-clause-back : goal.returns-in_err-check_text-clause-back
returns-in_err-check_text-clause-back c time b entries fits is says =
    let head = c.in_ok-head.ensures time (lines_text (base_lines b) ++ calls_text b.granted entries) fits (says ∙ body time b entries) in
    let played = c.in-Ok.ensures.back b entries is head.1 in
    let same : c.from_residual-in_err-check_text.result ≡ Err c.in_err-check_text.field-0.0 = search rules in
    elim c.in_err-check_text.ensures.refused [
      | inl memory ↦ rw same memory
      | inr other ↦
          absurd (other (says ∙ sym (ap (λ (t : Option EraTime). recording_text t c.in-Ok.played.beginning c.journal.result.now) head.0 ∙ ap (λ (x : Base). recording_text time x c.journal.result.now) played.0 ∙ ap (λ (xs : List Entry). recording_text time b xs) (c.journal.ensures.entries ∙ played.1))))
    ]
