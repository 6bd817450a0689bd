-- Each first word of an event is in the table.
use Rattle.std.proofs.Common.{◌≡◌, Contains, Some, refl}
use Rattle.swim_words.proofs.Tables.{named_in, in_table}
use Rattle.swim_record.specs.declared.event.EventWord.{EventWord}
use Rattle.swim_record.specs.declared.event.EventWord.TheVariants as word
use Rattle.swim_record.specs.declared.event.TheConstants.EventWord.{ALL}
use Rattle.swim_record.specs.Events.{event_word}

event_words : (w : EventWord) → named_in event_word ALL (event_word w) ≡ Some w
event_words word.Deal = refl
event_words _ = refl

pub all_event_words : (w : EventWord) → Contains ALL w
all_event_words w = in_table event_word ALL (event_word w) w (event_words w)
