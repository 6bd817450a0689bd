-- Which eras have a recording that is read again, and what is read of one.
use Rattle.std.specs.Prelude.{◌≡◌, ℕ, ◌^◌, ◌<◌, ◌≤◌, List, [], ◌∷◌, ◌++◌, length, map, All}
use Rattle.std.specs.Prelude.{None, IfSome, Result, Ok, Err}
use Rattle.swim_rules.specs.declared.table.TheConstants.{ROWS_MAX}
use Rattle.swim_gossip.specs.declared.buffer.TheConstants.{WAITING_MAX}
use Rattle.swim_gossip.specs.declared.buffer.Waiting.{Waiting}
use Rattle.swim_member.specs.declared.answer.TheConstants.{OUTS_MAX}
use Rattle.swim_member.specs.declared.member.TheConstants.{RELAYS_MAX}
use Rattle.swim_member.specs.declared.state.Relay.{Relay}
use Rattle.swim_member.specs.Checks.{AreSound}
use Rattle.swim_member.specs.State.{State}
use Rattle.swim_node.specs.declared.entry.Entry.{Entry}
use Rattle.swim_node.specs.History.{Base, IsLegal}
use Rattle.swim_node.specs.Lives.{Era}
use Rattle.swim_node.specs.Replaying.{begin_fault}
use Rattle.swim_record.specs.declared.line.Line.{Line}
use Rattle.swim_record.specs.Blocks.{AreFit}
use Rattle.swim_record.specs.Events.{IsEvent}
use Rattle.swim_record.specs.Recording.{begin_line, joining_lines, listed_line, member_line}
use Rattle.swim_record.specs.Recording.{probe_lines, relay_line, row_line, say_line, times_line}
use Rattle.swim_replay.specs.declared.fault.RecordingFault.{RecordingFault}
use Rattle.swim_replay.specs.declared.fault.RecordingReason.TheVariants.{NoMemory}

-- the lines of what a member knows, waits for and lists
abbrev pub told_lines : State → List Line
told_lines s =
    map row_line s.rows ++ map say_line s.queue ++ probe_lines s.probe
    ++ map relay_line s.relays ++ joining_lines s.joining ++ map listed_line s.listed

-- the lines of where an era begins
abbrev pub base_lines : Base → List Line
base_lines b =
    member_line b.state.settings ∷ times_line b.state.settings b.limit
    ∷ (told_lines b.state ++ begin_line b ∷ [])

-- a number of 32 bits
abbrev pub IsWord : ℕ → Type 0
IsWord n = n < 2 ^ 32

-- the numbers of a member's state are within their types, and
-- its lists within their room, as those of each real one are
pub record IsRecordedState (s : State) : Type 0 where
  pub lambda : IsWord s.settings.lambda
  pub rules : IsWord s.settings.rules
  pub rows : length s.rows ≤ ROWS_MAX
  pub queue : length s.queue ≤ WAITING_MAX
  pub counts : All (λ (w : Waiting). IsWord w.count) s.queue
  pub seq : IsWord s.seq
  pub probe : IfSome s.probe (λ p. IsWord p.seq)
  pub relays : length s.relays ≤ RELAYS_MAX
  pub pings : All (λ (r : Relay). IsWord r.seq × IsWord r.asked) s.relays
  pub joining : IfSome s.joining (λ j. IsWord j.seq)
  pub listed : length s.listed ≤ ROWS_MAX

-- the call of a caller below 16, whose numbers are within their types
pub record IsRecordedCall (e : Entry) : Type 0 where
  pub caller : e.tag.caller < 16
  pub event : IsEvent e.event
  pub granted : e.granted < 2 ^ 64
  pub outcomes : length e.outcomes.items ≤ OUTS_MAX

-- an era that a member could have had, and whose numbers are within their types
pub record IsRecorded (b : Base) (entries : List Entry) : Type 0 where
  pub sound : AreSound b.state.settings
  pub begins : begin_fault b ≡ None
  pub legal : IsLegal b entries
  pub fit : AreFit (base_lines b)
  pub within : IsRecordedState b.state
  pub limit : IsWord b.limit
  pub calls : All IsRecordedCall entries

-- this era was played, or there was no memory for it
abbrev pub IsPlayed : Base → List Entry → Result Era RecordingFault → Type 0
IsPlayed b entries (Ok era) = (era.base ≡ b) × (era.entries ≡ entries)
IsPlayed b entries (Err fault) = fault.reason ≡ NoMemory
