-- What the lines before an event say of its call.
use Rattle.std.specs.Prelude.{◌≡◌, ℕ, ◌+◌, ◌-◌, ◌<◌, ◌≤◌, List, [], ◌∷◌, ◌++◌, length, All}
use Rattle.std.specs.Prelude.{slice_set}
use Rattle.swim_member.specs.declared.answer.TheConstants.{OUTS_MAX}
use Rattle.swim_node.specs.declared.entry.Entry.{Entry}
use Rattle.swim_node.specs.declared.entry.Outcome.{Outcome}
use Rattle.swim_node.specs.declared.entry.Outcome.TheVariants.{Lost}
use Rattle.swim_node.specs.History.{AreNext}
use Rattle.swim_node.specs.Lives.{Era}
use Rattle.swim_record.specs.declared.line.Line.{Line}
use Rattle.swim_record.specs.declared.line.Line.TheVariants as line
use Rattle.swim_record.specs.Recording.{calls_text}
use Rattle.swim_replay.specs.declared.met.Met.{Met}
use Rattle.swim_replay.specs.Recorded.{IsRecordedCall, IsWord}

-- what a line adds
abbrev pub met_with : Met → Line → Met
met_with m (line.Caller caller) = record m { caller = caller }
met_with m (line.Granted granted) = record m { granted = granted }
met_with m (line.Lost place) = record m { outcomes = slice_set m.outcomes (place - 1) Lost }
met_with m _ = m

-- it says something of a call
abbrev pub MayMeet : Line → Type 0
MayMeet (line.Caller caller) = caller < 16
MayMeet (line.Granted granted) = Unit {0}
MayMeet (line.Lost place) = (0 < place) × (place ≤ OUTS_MAX)
MayMeet _ = ⊥

-- what these lines add
abbrev pub all_met : Met → List Line → Met
all_met m [] = m
all_met m (l ∷ lines) = all_met (met_with m l) lines

-- this is what the call met, and nothing is said of the datagrams that it did not send
pub record IsMet (e : Entry) (m : Met) : Type 0 where
  pub caller : m.caller ≡ e.tag.caller
  pub granted : m.granted ≡ e.granted
  pub more : List Outcome
  pub outcomes : m.outcomes ≡ e.outcomes.items ++ more

-- the text has the calls of these entries, which come after this
-- ceiling and are the next ones of the era
pub record IsToCome (era : Era) (rest : List ℕ) (granted : ℕ) (entries : List Entry) : Type 0 where
  pub text : rest ≡ calls_text granted entries
  pub next : AreNext era.base era.entries entries
  pub room : length era.entries + length entries ≤ era.base.limit
  pub limit : IsWord era.base.limit
  pub calls : All IsRecordedCall entries
