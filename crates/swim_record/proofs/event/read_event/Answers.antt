use Rattle.swim_record.specs.Events.{word_of}
use Rattle.swim_record.proofs.Events.{event_split}
use Rattle.swim_record.proofs.event.read_event.Goals as goal

pub returns-in-None : goal.returns-in-None
returns-in-None c e fits says =
    let split = event_split c.args.text.now c.first_word.result.0.now c.first_word.result.1.now e c.first_word.ensures.parts c.first_word.ensures.first c.first_word.ensures.rest says in
    absurd (c.in-None.ensures.none (word_of e) split.0)
