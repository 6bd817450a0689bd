-- Histories: which entries fit, and which lists of them are legal.
use Rattle.std.specs.Prelude.{◌≡◌, ◌==◌, ℕ, ◌+◌, ◌<◌, ◌≤◌, Bool, true, false, List, [], ◌∷◌, ◌++◌}
use Rattle.std.specs.Prelude.{length, map, Option, Some, None}
use Rattle.std.specs.List.{filter}
use Rattle.swim_wire.specs.declared.update.UpdateKind.TheVariants.{Alive, Suspect, Confirm}
use Rattle.swim_rules.specs.Rows.{is_of_kind}
use Rattle.swim_member.specs.declared.answer.Answer.{Answer}
use Rattle.swim_member.specs.declared.settings.Settings.{Settings}
use Rattle.swim_member.specs.State.{State}
use Rattle.swim_member.specs.Events.{Step, state_of, answer}
use Rattle.swim_member.specs.Judge.{wanted, HasDeal}
use Rattle.swim_member.specs.Member.{new_state}
use Rattle.swim_node.specs.declared.entry.Entry.{Entry}
use Rattle.swim_node.specs.declared.entry.Status.{Status}
use Rattle.swim_node.specs.declared.entry.Save.{Save}
use Rattle.swim_node.specs.declared.entry.Save.TheVariants.{Kept, Done, Failed}
use Rattle.swim_node.specs.declared.entry.Outcome.{Outcome}
use Rattle.swim_node.specs.declared.entry.Outcome.TheVariants.{Taken, Lost}

-- where an era begins: the member's state, the granted ceiling, the greatest own
-- number in datagrams of earlier eras, and how many entries an era has at most
pub record Base : Type 0 where
  pub state : State
  pub granted : ℕ
  pub past : Option ℕ
  pub limit : ℕ

-- a base at an opening
abbrev pub fresh_base : Settings → ℕ → ℕ → Base
fresh_base settings first limit =
    record { state = new_state settings first; granted = first; past = None; limit = limit }

-- the member's part of an entry
abbrev pub step_of : Entry → Step
step_of e = record { event = e.event; granted = e.granted }

-- the events of a history with their granted ceilings, as the member's definitions take them
abbrev pub steps : List Entry → List Step
steps history = map step_of history

-- the ceiling of the last entry, or g
abbrev pub granted_from : ℕ → List Entry → ℕ
granted_from g [] = g
granted_from g (e ∷ history) = granted_from e.granted history

-- the granted ceiling after a history
abbrev pub granted_of : Base → List Entry → ℕ
granted_of base history = granted_from base.granted history

-- the member's state after a history
abbrev pub state_after : Base → List Entry → State
state_after base history = state_of base.state (steps history)

-- what a reader is shown of this state after n calls of the era
abbrev pub status_at : State → ℕ → Status
status_at s n = record {
  phase = s.phase;
  number = s.number;
  alive = length (filter (is_of_kind Alive) s.rows);
  suspect = length (filter (is_of_kind Suspect) s.rows);
  confirmed = length (filter (is_of_kind Confirm) s.rows);
  length = n;
}

-- the status after a history
abbrev pub status_of : Base → List Entry → Status
status_of base history = status_at (state_after base history) (length history)

-- a save of an event that wants this, from the ceiling g to the ceiling that was granted
abbrev pub Saves : Option ℕ → ℕ → Save → ℕ → Type 0
Saves None g Kept granted = granted ≡ g
Saves None g Done granted = ⊥
Saves None g Failed granted = ⊥
Saves (Some w) g Kept granted = (w ≤ g) × (granted ≡ g)
Saves (Some w) g Done granted = (g < w) × (w ≤ granted)
Saves (Some w) g Failed granted = (g < w) × (g ≤ granted) × (granted < w)

-- which outcomes are Taken, which are Lost, and how many of each there are
abbrev pub is_taken : Outcome → Bool
is_taken Taken = true
is_taken Lost = false

abbrev pub is_lost : Outcome → Bool
is_lost Taken = false
is_lost Lost = true

abbrev pub taken_in : List Outcome → ℕ
taken_in outcomes = length (filter is_taken outcomes)

abbrev pub lost_in : List Outcome → ℕ
lost_in outcomes = length (filter is_lost outcomes)

-- the entries of one caller
abbrev pub is_by : ℕ → Entry → Bool
is_by caller e = e.tag.caller == caller

-- the calls of one caller, in order
abbrev pub calls_by : ℕ → List Entry → List Entry
calls_by caller history = filter (is_by caller) history

-- what the entry says that the member answered
abbrev pub answer_in : Entry → Answer
answer_in e = record { outs = e.outs; notes = e.reply.notes; page = e.reply.page }

-- the entry fits after a history: its save, and one outcome for each datagram
pub record Fits (base : Base) (history : List Entry) (e : Entry) : Type 0 where
  pub saved : Saves (wanted (state_after base history) e.event)
      (granted_of base history) e.save e.granted
  pub outcomes : length e.outcomes.items ≡ length e.outs.items

-- the entry is what the member answers after a history, with its status, its counts and its turn
pub record IsNext (base : Base) (history : List Entry) (e : Entry) : Type 0 where
  pub fits : Fits base history e
  pub deal : HasDeal e.event
  pub answered : answer base.state (steps history) e.event e.granted ≡ answer_in e
  pub status : e.reply.status ≡ status_of base (history ++ e ∷ [])
  pub sent : e.reply.sent ≡ taken_in e.outcomes.items
  pub lost : e.reply.lost ≡ lost_in e.outcomes.items
  pub turn : e.tag.turn ≡ length (calls_by e.tag.caller history) + 1

-- each of these entries is next after those before it
abbrev pub AreNext : Base → List Entry → List Entry → Type 0
AreNext base before [] = Unit {0}
AreNext base before (e ∷ history) = IsNext base before e × AreNext base (before ++ e ∷ []) history

-- a history that a member could have had
pub record IsLegal (base : Base) (history : List Entry) : Type 0 where
  pub each : AreNext base [] history
  pub within : length history ≤ base.limit
