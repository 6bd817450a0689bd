-- The law of detection, as a run looks whether it is kept.
use Rattle.std.specs.Prelude.{◌≡◌, ℕ, ◌+◌, ◌<◌, ◌≤◌, ◌⊎◌, ◌&&◌, cond, true}
use Rattle.std.specs.Prelude.{List, ◌++◌, Option, Some, None}
use Rattle.swim_wire.specs.declared.update.Update.{Update}
use Rattle.swim_wire.specs.declared.update.UpdateKind.{UpdateKind}
use Rattle.swim_wire.specs.declared.update.UpdateKind.TheVariants.{Alive, Suspect, Confirm}
use Rattle.swim_rules.specs.declared.table.Row.{Row}
use Rattle.swim_rules.specs.Rows.{row_of, is_due, confirm_of, is_eligible}
use Rattle.swim_member.specs.Judged as judged
use Rattle.swim_member.specs.Checks.{AreSound}
use Rattle.swim_member.specs.Events.{Step, changes_of, log_of, state_of}
use Rattle.swim_member.specs.Judge.{judge}
use Rattle.swim_member.specs.Probe.{ends_period, suspect_of}
use Rattle.swim_member.specs.State.{State, Heard}
use Rattle.swim_detect.specs.Causes.{Has, HasCause}
use Rattle.swim_detect.specs.Finding.{StaysEligible, IsSoundAt, is_waited_for, ticks_left}
use Rattle.swim_detect.specs.Silence.{IsSilence}
use Rattle.swim_simulate.specs.declared.detection.Deadline.{Deadline}

-- Deadlines

-- the deadline of the member of this row, as seen at this state, which has the row: by then the
-- law finds the member, where each turn list has at most `most` members
pub record IsDeadline (most : ℕ) (row : Row) (s : State) (deadline : Deadline) : Type 0 where
  pub eligible : is_eligible row ≡ true
  pub number : deadline.number ≡ row.update.number
  pub due : row_of s.rows row.update.who ≡ Some row
      → deadline.due ≡ s.time + ticks_left most row.update.who s

-- an update that does not vouch for a member of which this number was heard
abbrev pub IsLow : ℕ → Update → Type 0
IsLow number u = (u.kind ≡ Confirm) ⊎ (u.number ≤ number)

-- a member stays eligible for less than up to its deadline, in a stretch in which nobody vouches
-- for it
abbrev pub IsHeldBriefly : ℕ → Row → Deadline → State → List Step → List Step → Type 0
IsHeldBriefly most row deadline base before stretch =
    IsSoundAt base before
    → row_of (state_of base before).rows row.update.who ≡ Some row
    → IsDeadline most row (state_of base before) deadline
    → IsSilence most row.update.who deadline.number base (log_of base before) stretch
    → StaysEligible row.update.who base (log_of base before) stretch
    → (state_of base (before ++ stretch)).time < deadline.due

-- Causes

-- the Suspect or the Confirm that a tick makes of a row of this kind, if it does
abbrev pub made_of : State → Row → UpdateKind → Option Update
made_of s r Alive =
    cond (ends_period s && is_waited_for r.update.who s.probe) (Some (suspect_of r)) None
made_of s r Suspect =
    cond (is_due Suspect s.settings.suspect (s.time + 1) r) (Some (confirm_of r)) None
made_of s r Confirm = None

abbrev pub cause_at_tick : State → Row → Option Update
cause_at_tick s r = made_of s r r.update.kind

-- what the tick of this step makes of a row has a cause there
abbrev pub CausesAreNamed : State → List Step → Step → Type 0
CausesAreNamed base before e =
    (deal : List ℕ) → (r : Row) → (u : Update)
    → AreSound base.settings
    → judge (state_of base before) e.event ≡ judged.Tick deal
    → row_of (state_of base before).rows r.update.who ≡ Some r
    → cause_at_tick (state_of base before) r ≡ Some u
    → HasCause base before e u

-- each update about another that a tick hears is made of a row
abbrev pub TicksHaveCauses : State → List Step → Step → Type 0
TicksHaveCauses base before e =
    (deal : List ℕ) → (u : Update)
    → judge (state_of base before) e.event ≡ judged.Tick deal
    → Has (Heard u) (changes_of base (log_of base before) e.event e.granted)
    → (r : Row) × (row_of (state_of base before).rows u.who ≡ Some r)
    × (cause_at_tick (state_of base before) r ≡ Some u)
