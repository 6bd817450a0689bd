-- Updates about other members.
use Rattle.std.specs.Prelude.{List, [], ◌∷◌}
use Rattle.swim_member.specs.Checks.{rules_of}
use Rattle.swim_member.specs.State.{State, Change, Heard, Queued, Noted}
use Rattle.swim_rules.specs.Rows.{answer_to}
use Rattle.swim_rules.specs.declared.table.Heard.{Heard as Hearing}
use Rattle.swim_wire.specs.declared.update.Update.{Update}
use Rattle.swim_rules.specs.declared.table.Heard.TheVariants as heard
use Rattle.swim_member.specs.declared.note.Note.TheVariants as note

-- what hearing an update about another member does, by the answer of the table
abbrev pub heard_with : Hearing → Update → List Change
heard_with heard.Accepted u = Queued u ∷ Heard u ∷ []
heard_with heard.Kept u = Heard u ∷ []
heard_with heard.Unknown u = []
heard_with heard.Full u = Noted note.TableFull ∷ []

-- an update about another member
abbrev pub hear_other : State → Update → List Change
hear_other s u = heard_with (answer_to (rules_of s.settings) s.rows u) u
