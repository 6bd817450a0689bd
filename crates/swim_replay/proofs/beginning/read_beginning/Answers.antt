use Rattle.std.proofs.Common.{List, subst, ◌++◌, ◌∷◌, [], length, ap, ◌∙◌, sym, arith, length-append}
use Rattle.swim_record.specs.declared.line.Line.{Line}
use Rattle.swim_record.specs.declared.line.Start.{Start}
use Rattle.swim_record.specs.Recording.{begin_line}
use Rattle.swim_replay.specs.Machinery.Told.{blank_state}
use Rattle.swim_replay.specs.Recorded.{IsWord, base_lines, told_lines}
use Rattle.swim_replay.proofs.Sections.{same-base, start_of, tells, told-is}
use Rattle.swim_replay.proofs.beginning.read_beginning.Goals as goal

pub returns-in-Err-add_told-clause-back : goal.returns-in-Err-add_told-clause-back
returns-in-Err-add_told-clause-back c b after sound is limit lines =
    let read = c.in-Ok.ensures.back b.state.settings b.limit ((told_lines b.state ++ begin_line b ∷ []) ++ after) sound is.lambda is.rules limit lines in
    let told = tells b after c.in-Ok.read.2.now c.blank-state.result c.in-Ok.read.0 is read.0 read.2 c.blank-state.ensures in
    absurd (c.in-Err-add_told.ensures.back (told_lines b.state) (start_of b) after told.0 told.1)

pub returns-in_default-clause-back : goal.returns-in_default-clause-back
returns-in_default-clause-back c b after sound is limit lines =
    let read = c.in-Ok.ensures.back b.state.settings b.limit ((told_lines b.state ++ begin_line b ∷ []) ++ after) sound is.lambda is.rules limit lines in
    let told = tells b after c.in-Ok.read.2.now c.blank-state.result c.in-Ok.read.0 is read.0 read.2 c.blank-state.ensures in
    let added = c.in-Ok-add_told.ensures.back (told_lines b.state) (start_of b) after told.0 told.1 in
    let small : IsWord c.in-Ok-add_told.read.0.seq = subst (λ (x : Start). IsWord x.seq) (sym added.0) is.seq in
    absurd (c.in_default.ensures.none small)

pub returns-clause-back : goal.returns-clause-back
returns-clause-back c b after sound is limit lines =
    let read = c.in-Ok.ensures.back b.state.settings b.limit ((told_lines b.state ++ begin_line b ∷ []) ++ after) sound is.lambda is.rules limit lines in
    let told = tells b after c.in-Ok.read.2.now c.blank-state.result c.in-Ok.read.0 is read.0 read.2 c.blank-state.ensures in
    let added = c.in-Ok-add_told.ensures.back (told_lines b.state) (start_of b) after told.0 told.1 in
    let blank = c.blank-state.ensures ∙ ap blank_state read.0 in
    let state = told-is b c.blank-state.result c.add_told.new.state c.start_with.new.state c.in-Ok-add_told.read.0 is blank added.2 added.0 c.in-Some.ensures.some in
    let whole = ap (λ (ls : List Line). length ls) lines ∙ length-append (base_lines b) after in
    let rest = ap (λ (ls : List Line). length ls) added.1 in (
      same-base b c.start_with.new.state c.in-Ok-add_told.read.0 c.in-Ok.read.1 state added.0 read.1,
      omega (arith, whole, rest),
    )
