-- What is counted of the calls of a member.
use Rattle.std.specs.Prelude.{ℕ, ◌+◌, ◌-◌, ◌^◌, min, nat_lt, if◌then◌else◌}
use Rattle.std.specs.Prelude.{List, [], ◌∷◌, slice_index, slice_set}
use Rattle.swim_member.specs.declared.event.Event.{Event}
use Rattle.swim_member.specs.declared.event.Event.TheVariants as event
use Rattle.swim_member.specs.declared.note.Note.{Note}
use Rattle.swim_member.specs.Texts.{note_number}
use Rattle.swim_node.specs.declared.entry.Reply.{Reply}
use Rattle.swim_shell.specs.declared.counts.CallCounts.{CallCounts}
use Rattle.swim_shell.specs.declared.counts.EventKind.{EventKind}
use Rattle.swim_shell.specs.declared.counts.EventKind.TheVariants as kind

-- so many more of a count, which stays at the greatest number
abbrev pub more : ℕ → ℕ → ℕ
more count gain = min (count + gain) (2 ^ 64 - 1)

-- the kind of an event, with the losses that it tells
abbrev pub event_kind : Event → EventKind
event_kind (event.Tick deal) = kind.Tick
event_kind (event.Datagram from bytes) = kind.Datagram
event_kind event.ReceiveFailed = kind.ReceiveFailed
event_kind (event.SendFailed count) = kind.SendFailed count
event_kind (event.Join peer) = kind.Join
event_kind event.Leave = kind.Other
event_kind (event.Members after) = kind.Other

-- one more call of this kind
abbrev pub with_call : EventKind → CallCounts → CallCounts
with_call kind.Tick c = record c { ticks = more c.ticks 1 }
with_call kind.Datagram c = record c { received = more c.received 1 }
with_call kind.ReceiveFailed c = record c { receive_failures = more c.receive_failures 1 }
with_call (kind.SendFailed count) c = record c { lost = more c.lost count }
with_call kind.Join c = record c { joins = more c.joins 1 }
with_call kind.Other c = c

-- a datagram that raised the own number made the member refute a suspicion
abbrev pub refutations_by : EventKind → ℕ → ℕ → ℕ
refutations_by kind.Datagram before after = if nat_lt before after then 1 else 0
refutations_by _ before after = 0

-- an entry more, with what its reply says of the datagrams and of the own number
abbrev pub with_reply : EventKind → Reply → CallCounts → CallCounts
with_reply kind reply c = record c {
  number = reply.status.number;
  entries = more c.entries 1;
  sent = more c.sent reply.sent;
  lost = more c.lost reply.lost;
  refutations = more c.refutations (refutations_by kind c.number reply.status.number);
}

-- the place of a note among the counts of notes: those of the first number stand first
abbrev pub note_place : Note → ℕ
note_place note = note_number note - 1

-- one more of each of these notes
abbrev pub with_notes : List Note → List ℕ → List ℕ
with_notes [] counts = counts
with_notes (n ∷ notes) counts =
    with_notes notes (slice_set counts (note_place n)
    (more (slice_index counts (note_place n)) 1))

-- what the counts are after an answered call of this kind
abbrev pub counts_after : EventKind → Reply → CallCounts → CallCounts
counts_after kind reply c =
    let called = with_reply kind reply (with_call kind c) in
    record called { notes = with_notes reply.notes.items called.notes }

-- the counts of calls, in the order in which they are shown
abbrev pub call_counts : CallCounts → List ℕ
call_counts c =
    c.entries ∷ c.ticks ∷ c.joins ∷ c.received ∷ c.receive_failures ∷ c.sent ∷ c.lost
    ∷ c.refutations ∷ []
