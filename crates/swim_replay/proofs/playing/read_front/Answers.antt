use Rattle.std.proofs.Common.{sym, ◌∙◌}
use Rattle.swim_record.specs.Recording.{calls_text}
use Rattle.swim_replay.specs.Recorded.{base_lines}
use Rattle.swim_replay.proofs.Lines.{base-first}
use Rattle.swim_replay.proofs.playing.read_front.Goals as goal

pub returns-in_err-begun-clause-back : goal.returns-in_err-begun-clause-back
returns-in_err-begun-clause-back c b entries is says =
    let first = base-first b entries c.args.text.now c.in-Ok.lines.items c.in-Ok.field-0-1.now is.fit is.calls says c.in-Ok.ensures.back in
    absurd (c.in_err-begun.ensures.back b first.0 is.sound is.within is.limit (c.deref.ensures.value ∙ first.1))

pub returns-in-Some-clause-back : goal.returns-in-Some-clause-back
returns-in-Some-clause-back c b entries is says =
    let first = base-first b entries c.args.text.now c.in-Ok.lines.items c.in-Ok.field-0-1.now is.fit is.calls says c.in-Ok.ensures.back in
    let begun = c.in_ok-begun.ensures.back b first.0 is.sound is.within is.limit (c.deref.ensures.value ∙ first.1) in
    (begun.0, c.in-Some.ensures (base_lines b) (calls_text b.granted entries) is.fit (sym begun.1) says)

pub returns-clause-back : goal.returns-clause-back
returns-clause-back c b entries is says =
    let first = base-first b entries c.args.text.now c.in-Ok.lines.items c.in-Ok.field-0-1.now is.fit is.calls says c.in-Ok.ensures.back in
    let begun = c.in_ok-begun.ensures.back b first.0 is.sound is.within is.limit (c.deref.ensures.value ∙ first.1) in
    absurd (c.in-None.ensures (base_lines b) (calls_text b.granted entries) is.fit (sym begun.1) says)
