use Rattle.std.proofs.Common.{◌∙◌}
use Rattle.swim_words.proofs.Splits.{no_split, same_split}
use Rattle.swim_record.specs.Recording.{event_words}
use Rattle.swim_record.proofs.Blocks.{event_ends}
use Rattle.swim_replay.proofs.Entering.{event_memory}
use Rattle.swim_replay.proofs.Lines.{read-parts}
use Rattle.swim_replay.proofs.call.read_call.Goals as goal

pub returns-in-Err-read_met-clause-back : goal.returns-in-Err-read_met-clause-back
returns-in-Err-read_met-clause-back c e after is says =
    let parts = read-parts c.args.text.now c.args.granted e after c.in-Ok.read.0.items c.in-Ok.read.1.now is says c.in-Ok.ensures.back in
    absurd (c.in-Err-read_met.ensures.back e is (c.deref.ensures.value ∙ parts.0))

pub returns-in_default-clause-back : goal.returns-in_default-clause-back
returns-in_default-clause-back c e after is says =
    let parts = read-parts c.args.text.now c.args.granted e after c.in-Ok.read.0.items c.in-Ok.read.1.now is says c.in-Ok.ensures.back in
    absurd (no_split 10 (event_words e.event) after c.in-Ok.read.1.now c.in_default.ensures.none parts.1)

pub returns-in-Ok-read_event-clause-back : goal.returns-in-Ok-read_event-clause-back
returns-in-Ok-read_event-clause-back c e after is says =
    let parts = read-parts c.args.text.now c.args.granted e after c.in-Ok.read.0.items c.in-Ok.read.1.now is says c.in-Ok.ensures.back in
    let cut = same_split 10 c.in-Ok.read.1.now c.in-Some.word.now c.in-Some.rest.now (event_words e.event) after c.in-Some.ensures.first c.in-Some.ensures.parts (event_ends e.event is.event) parts.1 in
    (c.in-Ok-read_met.ensures.back e is (c.deref.ensures.value ∙ parts.0), c.in-Ok-read_event.ensures e.event is.event cut.0, cut.1)

pub returns-clause-back : goal.returns-clause-back
returns-clause-back c e after is says =
    let parts = read-parts c.args.text.now c.args.granted e after c.in-Ok.read.0.items c.in-Ok.read.1.now is says c.in-Ok.ensures.back in
    let cut = same_split 10 c.in-Ok.read.1.now c.in-Some.word.now c.in-Some.rest.now (event_words e.event) after c.in-Some.ensures.first c.in-Some.ensures.parts (event_ends e.event is.event) parts.1 in
    c.from.ensures (event_memory c.in-Err-read_event.fault e.event (c.in-Err-read_event.ensures e.event is.event cut.0))
