-- The words of a transcript.
use Rattle.std.specs.Prelude.{ℕ, List, ◌++◌, codes}
use Rattle.std.specs.Fmt.{decimal}
use Rattle.swim_member.specs.Texts.{setting_text}
use Rattle.swim_node.specs.Fault.{text_of_open}
use Rattle.swim_node.specs.declared.entry.Outcome.{Outcome}
use Rattle.swim_node.specs.declared.entry.Outcome.TheVariants.{Taken, Lost}
use Rattle.swim_node.specs.declared.entry.Save.{Save}
use Rattle.swim_node.specs.declared.entry.Save.TheVariants.{Kept, Done, Failed}
use Rattle.swim_node.specs.declared.entry.Status.{Status}
use Rattle.swim_member.specs.Texts.{phase_word}
use Rattle.swim_play.specs.declared.session.OpeningRefusal.{OpeningRefusal}
use Rattle.swim_play.specs.declared.session.OpeningRefusal.TheVariants.{Settings, Open}

-- the word of a transcript for what became of a save
abbrev pub save_word : Save → List ℕ
save_word Kept = codes "none"
save_word Done = codes "done"
save_word Failed = codes "failed"

-- the word of a transcript for what became of a datagram
abbrev pub outcome_word : Outcome → List ℕ
outcome_word Taken = codes "taken"
outcome_word Lost = codes "lost"

-- the first line of an event, without its end
abbrev pub event_text : Status → Save → List ℕ
event_text status save =
    codes "event " ++ decimal status.length ++ codes " save " ++ save_word save ++ codes " number "
    ++ decimal status.number ++ codes " phase " ++ phase_word status.phase

-- the line of a refused opening, without its end
abbrev pub refusal_text : OpeningRefusal → List ℕ
refusal_text (Settings fault) = codes "settings refused " ++ setting_text fault
refusal_text (Open fault) = codes "open refused " ++ text_of_open fault
