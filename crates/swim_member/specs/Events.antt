-- What a member does at each event, and what a history of events comes to.
use Rattle.std.specs.List.{find}
use Rattle.std.specs.Prelude.{◌≡◌, ℕ, ◌+◌, ◌==◌, nat_le, List, [], ◌∷◌, ◌++◌, map, if◌then◌else◌}
use Rattle.std.specs.Prelude.{Option, Some, None, replicate, slice_get, zero, suc}
use Rattle.swim_member.specs.Checks.{rules_of}
use Rattle.swim_member.specs.Expiry.{expire_first, forget_first}
use Rattle.swim_member.specs.Hearing.{hear_other}
use Rattle.swim_member.specs.Join.{page_after, join_to}
use Rattle.swim_member.specs.Judge.{judge}
use Rattle.swim_member.specs.Judged.{Judged}
use Rattle.swim_member.specs.Leave.{bye}
use Rattle.swim_member.specs.Member.{eligible}
use Rattle.swim_member.specs.OwnNumber.{own_with, hear_own, settle_number}
use Rattle.swim_member.specs.Probe.{is_at, blame, ask}
use Rattle.swim_member.specs.Readings.{state}
use Rattle.swim_member.specs.Reply.{reply}
use Rattle.swim_member.specs.State.{State, Change, Queued, Sent, Became, Ticked, Paged, Noted}
use Rattle.swim_member.specs.Turn.{look}
use Rattle.swim_member.specs.declared.answer.Answer.{Answer}
use Rattle.swim_member.specs.declared.answer.Out.{Out}
use Rattle.swim_member.specs.declared.event.Event.{Event}
use Rattle.swim_member.specs.declared.event.Event.TheVariants.{Tick}
use Rattle.swim_member.specs.declared.leave.TheConstants.{BYES_MAX}
use Rattle.swim_member.specs.declared.note.Note.{Note}
use Rattle.swim_member.specs.declared.own_number.OwnNumber.{OwnNumber}
use Rattle.swim_member.specs.declared.settings.TheConstants.{HELPERS_MAX}
use Rattle.swim_member.specs.declared.state.Phase.{Phase}
use Rattle.swim_member.specs.declared.state.Phase.TheVariants.{Running, Left, Expelled}
use Rattle.swim_rules.specs.Rows.{is_due}
use Rattle.swim_rules.specs.declared.table.TheConstants.{ROWS_MAX}
use Rattle.swim_wire.specs.declared.datagram.Datagram.{Datagram}
use Rattle.swim_wire.specs.declared.update.Update.{Update}
use Rattle.swim_wire.specs.declared.update.UpdateKind.TheVariants.{Suspect, Confirm}
use Rattle.swim_member.specs.Judged as judged
use Rattle.swim_member.specs.declared.note.Note.TheVariants as note

-- Actions

-- one part of what is done at an event; its datagrams carry what waits when it is done
pub data Action : Type 0 where
  Hear : Update → Action
  Settle : OwnNumber → ℕ → Action  -- with the granted ceiling
  Reply : Datagram → Action
  Advance : Action
  Expire : Action
  Forget : Action
  Blame : Action
  Probe_next : List ℕ → Action  -- with the deal
  Ask : ℕ → Action
  Depart : Action
  Bye : ℕ → Action
  Join_peer : ℕ → Action
  Show : ℕ → Action
  Take : Note → Action

-- what only a running member does
abbrev pub when_running : Phase → List Change → List Change
when_running Running happened = happened
when_running Left happened = []
when_running Expelled happened = []

-- what happens by a move, the newest first
abbrev pub perform : State → Action → List Change
perform s (Hear u) =
    if u.who == s.settings.me then hear_own (rules_of s.settings) s.number u
    else hear_other s u
perform s (Settle own granted) = settle_number s own granted
perform s (Reply p) = when_running s.phase (reply s p.kind p)
perform s Advance = Ticked ∷ []
perform s Expire = expire_first (find (is_due Suspect s.settings.suspect s.time) s.rows)
perform s Forget = forget_first (find (is_due Confirm s.settings.forget s.time) s.rows)
perform s Blame = if is_at s 0 then blame s s.probe else []
perform s (Probe_next deal) = if is_at s 0 then look s deal else []
perform s (Ask k) = if is_at s s.settings.direct then ask s s.probe k else []
perform s Depart = Queued (own_with s Confirm s.number) ∷ Became Left ∷ []
perform s (Bye k) = if nat_le k s.settings.helpers then bye s (slice_get (eligible s) k) else []
perform s (Join_peer peer) =
    if peer == s.settings.me then Noted note.Misdirected ∷ [] else join_to s peer 0
perform s (Show cursor) = Paged (page_after s cursor) ∷ []
perform s (Take n) = Noted n ∷ []

-- a move for each of n numbers from k on, in order
abbrev pub each_from : ℕ → ℕ → (ℕ → Action) → List Action
each_from k zero f = []
each_from k (suc n) f = f k ∷ each_from (k + 1) n f

-- what is done at a datagram that is accepted
abbrev pub datagram_actions : Datagram → OwnNumber → ℕ → List Action
datagram_actions p own granted =
    map (λ u. Hear u) p.updates.items ++ Settle own granted ∷ Reply p ∷ []

-- what is done at a tick that counts
abbrev pub tick_actions : List ℕ → List Action
tick_actions deal =
    Advance ∷ replicate ROWS_MAX Expire ++ replicate ROWS_MAX Forget ++ Blame ∷ Probe_next deal
    ∷ each_from 0 HELPERS_MAX (λ k. Ask k)

-- what is done at a leave
abbrev pub leave_actions : List Action
leave_actions = Depart ∷ each_from 0 BYES_MAX (λ k. Bye k)

-- what is done at an event as it was judged, with the ceiling that was granted
abbrev pub actions_of : Judged → ℕ → List Action
actions_of (judged.Note n) granted = Take n ∷ []
actions_of (judged.Tick deal) granted = tick_actions deal
actions_of (judged.Datagram p own) granted = datagram_actions p own granted
actions_of (judged.Join peer) granted = Join_peer peer ∷ []
actions_of judged.Leave granted = leave_actions
actions_of (judged.Members cursor) granted = Show cursor ∷ []

-- what is done at an event, one action after another
abbrev pub actions : State → Event → ℕ → List Action
actions s event granted = actions_of (judge s event) granted

-- Histories

-- what happens by these moves after what happened before, the newest first
abbrev pub changes_by : State → List Change → List Action → List Change
changes_by base log [] = []
changes_by base log (m ∷ actions) =
    changes_by base (perform (state base log) m ++ log) actions ++ perform (state base log) m

-- an event with the ceiling that was granted for it
pub record Step : Type 0 where
  pub event : Event
  pub granted : ℕ

-- what an event adds to what happened
abbrev pub changes_of : State → List Change → Event → ℕ → List Change
changes_of base log event granted = changes_by base log (actions (state base log) event granted)

-- the log after these steps, from a log before them
abbrev pub log_after : State → List Change → List Step → List Change
log_after base log [] = log
log_after base log (e ∷ steps) = log_after base (changes_of base log e.event e.granted ++ log) steps

-- everything that happened in a history
abbrev pub log_of : State → List Step → List Change
log_of base steps = log_after base [] steps

-- the state after a history
abbrev pub state_of : State → List Step → State
state_of base steps = state base (log_of base steps)

-- Answers

-- the datagrams among what happened, each with its destination, in order
abbrev pub outs : List Change → List Out
outs [] = []
outs (Sent to p ∷ log) = outs log ++ record { to = to; datagram = p } ∷ []
outs (_ ∷ log) = outs log

-- the notes among these happenings, the first one first
abbrev pub notes : List Change → List Note
notes [] = []
notes (Noted n ∷ log) = notes log ++ n ∷ []
notes (_ ∷ log) = notes log

-- the page that was answered, if any
abbrev pub page : List Change → List Update
page [] = []
page (Paged updates ∷ log) = updates
page (_ ∷ log) = page log

-- the answer of a step, read off what happened in it
abbrev pub answer_in : List Change → Answer
answer_in happened = record {
  outs = record { items = outs happened };
  notes = record { items = notes happened };
  page = record { items = page happened };
}

-- an answer that has nothing to say yet
abbrev pub no_answer : Answer
no_answer = record {
  outs = record { items = [] };
  notes = record { items = [] };
  page = record { items = [] };
}

-- what a member answers to an event after a history
abbrev pub answer : State → List Step → Event → ℕ → Answer
answer base steps event granted = answer_in (changes_of base (log_of base steps) event granted)

-- the own number after an event that wants a number or none
abbrev pub number_after : Option ℕ → ℕ → ℕ → ℕ
number_after None granted n = n
number_after (Some w) granted n = if nat_le w granted then w else n

-- a tick with this deal, as a step
abbrev pub tick_with : List ℕ → ℕ → Step
tick_with deal granted = record { event = Tick deal; granted = granted }

-- whatever a tick after these steps deals, the answer is the same, and so is the next state
abbrev pub DealIsOfNoMatter : State → List Step → Type 0
DealIsOfNoMatter base steps = (a b : List ℕ) (granted : ℕ)
    → (answer base steps (Tick a) granted ≡ answer base steps (Tick b) granted)
    × (state_of base (steps ++ tick_with a granted ∷ [])
    ≡ state_of base (steps ++ tick_with b granted ∷ []))
