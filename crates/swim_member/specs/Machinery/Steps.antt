-- A step as the code takes it, from one state to the
-- next. It is shown to be what the readings of a log say.
use Rattle.std.specs.Prelude.{ℕ, suc, ◌+◌, ◌-◌, ◌%◌, ◌^◌, nat_lt, ◌&&◌, Bool, not, List, [], ◌∷◌}
use Rattle.std.specs.Prelude.{◌++◌, map, if◌then◌else◌, Option, Some, None}
use Rattle.std.specs.List.{filter}
use Rattle.swim_wire.specs.declared.update.Update.{Update}
use Rattle.swim_wire.specs.declared.datagram.Datagram.{Datagram}
use Rattle.swim_rules.specs.declared.table.Row.{Row}
use Rattle.swim_rules.specs.Rows.{heard_row, remove_row, row_of, is_eligible}
use Rattle.swim_gossip.specs.declared.buffer.Waiting.{Waiting}
use Rattle.swim_gossip.specs.Queue.{raise_all, offered_queue, without}
use Rattle.swim_wire.specs.declared.datagram.Kind.TheVariants.{PingReq}
use Rattle.swim_member.specs.declared.state.Probe.{Probe}
use Rattle.swim_member.specs.declared.state.Relay.{Relay}
use Rattle.swim_member.specs.declared.note.Note.{Note}
use Rattle.swim_member.specs.declared.answer.Out.{Out}
use Rattle.swim_member.specs.declared.answer.Answer.{Answer}
use Rattle.swim_member.specs.declared.event.Event.{Event}
use Rattle.swim_member.specs.Checks.{rules_of}
use Rattle.swim_member.specs.State.{State, Change, Heard, Forgot, Queued, Sent, NumberRaised}
use Rattle.swim_member.specs.State.{Became}
use Rattle.swim_member.specs.State.{Ticked, SequenceTaken, Probed, Relayed, Unrelayed, Joined}
use Rattle.swim_member.specs.State.{Looked, Listed, Passed, Paged, Noted}
use Rattle.swim_member.specs.Readings.{carries_updates, is_relay, without_relay}
use Rattle.swim_member.specs.Events.{Action, perform, actions, notes, outs, page}
use Rattle.swim_member.specs.Member.{row_name}
use Rattle.swim_member.specs.Send.{send}
use Rattle.swim_member.specs.Send.{datagram}
use Rattle.swim_member.specs.Send.{carried_updates}
use Rattle.swim_member.specs.Member.{is_eligible_name}

-- the relay is less than a period old
abbrev pub is_live : ℕ → ℕ → Relay → Bool
is_live now period r = nat_lt (now - r.made) period

-- the queue after a datagram
abbrev pub queue_after : Datagram → List Waiting → List Waiting
queue_after p waiting =
    if carries_updates p.kind then map (raise_all p.updates.items) waiting else waiting

-- the rows after an update about another member
abbrev pub rows_heard : State → Update → List Row
rows_heard s u =
    heard_row (rules_of s.settings) (row_of s.rows u.who) s.rows
    (record { update = u; since = s.time })

-- a state after a happening
abbrev pub apply : Change → State → State
apply (Heard u) s = record s { rows = rows_heard s u }
apply (Forgot x) s = record s { rows = remove_row s.rows x; queue = without x s.queue }
apply (Queued u) s = record s { queue = offered_queue s.queue u }
apply (Sent to p) s = record s { queue = queue_after p s.queue }
apply (NumberRaised n) s = record s { number = n }
apply (Became p) s = record s { phase = p }
apply Ticked s = record s {
  time = s.time + 1;
  relays = filter (is_live (s.time + 1) s.settings.period) s.relays;
}
apply SequenceTaken s = record s { seq = (s.seq + 1) % 2 ^ 32 }
apply (Probed p) s = record s { probe = p }
apply (Relayed r) s =
    record s { relays = s.relays ++ filter (is_live s.time s.settings.period) (r ∷ []) }
apply (Unrelayed r) s = record s { relays = without_relay r s.relays }
apply (Joined j) s = record s { joining = j }
apply (Looked names) s = s
apply (Listed names) s = record s { listed = names; place = 0 }
apply (Passed n) s = record s { place = s.place + n }
apply (Paged updates) s = s
apply (Noted n) s = s

-- a state after what happened, the newest first
abbrev pub apply_all : List Change → State → State
apply_all [] s = s
apply_all (h ∷ happened) s = apply h (apply_all happened s)

-- what happens by these moves from a state on
abbrev pub changes_from : State → List Action → List Change
changes_from s [] = []
changes_from s (m ∷ actions) = changes_from (apply_all (perform s m) s) actions ++ perform s m

-- what a step from this state adds
abbrev pub step_news : State → Event → ℕ → List Change
step_news s event granted = changes_from s (actions s event granted)

-- the state after these moves
abbrev pub after : State → List Action → State
after s [] = s
after s (m ∷ actions) = after (apply_all (perform s m) s) actions

-- the notes of these moves
abbrev pub notes_by : State → List Action → List Note
notes_by s [] = []
notes_by s (m ∷ actions) = notes (perform s m) ++ notes_by (apply_all (perform s m) s) actions

-- the datagrams of these moves
abbrev pub outs_by : State → List Action → List Out
outs_by s [] = []
outs_by s (m ∷ actions) = outs (perform s m) ++ outs_by (apply_all (perform s m) s) actions

-- how many relays stand before the first that is r
abbrev pub relay_place : Relay → List Relay → ℕ
relay_place r [] = 0
relay_place r (q ∷ relays) = if is_relay r q then 0 else suc (relay_place r relays)

-- the own update where it comes at all and before a row, else that of the row
abbrev pub earlier_update : Update → Bool → Row → Update
earlier_update own comes row = if comes && nat_lt own.who row.update.who then own else row.update

-- the answer of these moves
abbrev pub answer_by : State → List Action → Answer
answer_by s actions = record {
  outs = record { items = outs_by s actions };
  notes = record { items = notes_by s actions };
  page = record { items = page (changes_from s actions) };
}

-- the row is eligible and stands after x, or else before it
abbrev pub is_helper : ℕ → Bool → Row → Bool
is_helper x later r =
    is_eligible r && (if later then nat_lt x (row_name r) else nat_lt (row_name r) x)

-- the state after a ping-req about the target of q to each of these members
abbrev pub after_asks : State → Probe → List ℕ → State
after_asks s q [] = s
after_asks s q (helper ∷ helpers) =
    after_asks (apply (send s helper PingReq q.seq q.target) s) q helpers

-- these ping-reqs
abbrev pub outs_of_asks : State → Probe → List ℕ → List Out
outs_of_asks s q [] = []
outs_of_asks s q (helper ∷ helpers) =
    record { to = helper; datagram = datagram s PingReq q.seq q.target (carried_updates s) }
    ∷ outs_of_asks (apply (send s helper PingReq q.seq q.target) s) q helpers

-- the probe, where it is not answered and its target is eligible
abbrev pub open_probe : State → Option Probe → Option Probe
open_probe s None = None
open_probe s (Some q) = if not q.answered && is_eligible_name s q.target then Some q else None
