use Rattle.swim_words.proofs.Tables.{none_named}
use Rattle.swim_record.specs.Events.{event_word}
use Rattle.swim_record.specs.declared.event.TheConstants.EventWord.{ALL}
use Rattle.swim_record.proofs.EventWords.{all_event_words}
use Rattle.swim_record.proofs.event.EventWord.of.Goals as goal

pub returns-clause-none : goal.returns-clause-none
returns-clause-none c = none_named event_word ALL c.args.word.now c.named.result all_event_words c.named.ensures.none
