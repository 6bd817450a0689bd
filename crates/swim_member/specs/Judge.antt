-- What a member makes of an event before it acts.
use Rattle.std.specs.Prelude.{ℕ, ◌==◌, not, if◌then◌else◌, Option, Some, None, Result, Ok, Err}
use Rattle.std.specs.Prelude.{IfSome, ◌<◌, ◌≤◌}
use Rattle.swim_member.specs.Checks.{rules_of}
use Rattle.swim_rules.specs.Deals.{IsDeal}
use Rattle.swim_member.specs.Judged.{Judged}
use Rattle.swim_member.specs.OwnNumber.{own_number_by, wanted_number}
use Rattle.swim_member.specs.State.{State}
use Rattle.swim_member.specs.declared.event.Event.{Event}
use Rattle.swim_member.specs.declared.note.Note.{Note}
use Rattle.swim_member.specs.declared.settings.Settings.{Settings}
use Rattle.swim_member.specs.declared.state.Phase.{Phase}
use Rattle.swim_member.specs.declared.state.Phase.TheVariants.{Running, Left, Expelled}
use Rattle.swim_member.specs.declared.tick.TheConstants.{LAST_TIME}
use Rattle.swim_wire.specs.Codes.{is_same_rules}
use Rattle.swim_wire.specs.Decoding.{decoded}
use Rattle.swim_wire.specs.Spelling.{HasText}
use Rattle.swim_wire.specs.declared.datagram.Datagram.{Datagram}
use Rattle.swim_wire.specs.declared.fault.WireFault.{WireFault}
use Rattle.swim_wire.specs.declared.update.TheConstants.{NUMBER_MAX}
use Rattle.swim_member.specs.declared.event.Event.TheVariants as event
use Rattle.swim_member.specs.Judged as judged
use Rattle.swim_member.specs.declared.note.Note.TheVariants as note

-- what refuses a datagram that was read, if anything does
abbrev pub refusal_of : Settings → ℕ → Datagram → Option Note
refusal_of settings from p =
    if not (p.group == settings.group) then Some note.OtherGroup
    else (if not (is_same_rules p.version (rules_of settings)) then Some note.OtherVersion
    else (if not (p.sender == from) then Some note.NotSender
    else (if p.sender == settings.me then Some note.FromSelf else None)))

-- a datagram that was read: refused, or accepted with what it asks of the own number
abbrev pub judge_read : State → Datagram → Option Note → Judged
judge_read s p (Some n) = judged.Note n
judge_read s p None = judged.Datagram p (own_number_by s p.updates.items)

-- received bytes
abbrev pub judge_bytes : State → ℕ → Result Datagram WireFault → Judged
judge_bytes s from (Err fault) = judged.Note (note.BadDatagram fault)
judge_bytes s from (Ok p) = judge_read s p (refusal_of s.settings from p)

-- an event of a member that takes part
abbrev pub judge_running : State → Event → Judged
judge_running s (event.Tick deal) =
    if s.time == LAST_TIME then judged.Note note.TimeOver else judged.Tick deal
judge_running s (event.Datagram from bytes) = judge_bytes s from (decoded bytes.items)
judge_running s event.ReceiveFailed = judged.Note note.ReceiveFailed
judge_running s (event.SendFailed count) = judged.Note (note.SendFailed count)
judge_running s (event.Join peer) = judged.Join peer
judge_running s event.Leave = judged.Leave
judge_running s (event.Members cursor) = judged.Members cursor

-- a member that takes no part shows its members, and notes everything else
abbrev pub judge_stopped : Event → Judged
judge_stopped (event.Members cursor) = judged.Members cursor
judge_stopped _ = judged.Note note.Stopped

-- an event, by the phase
abbrev pub judge_in : Phase → State → Event → Judged
judge_in Running s event = judge_running s event
judge_in Left s event = judge_stopped event
judge_in Expelled s event = judge_stopped event

-- what a tick deals is a deal
abbrev pub HasDeal : Event → Type 0
HasDeal (event.Tick deal) = IsDeal deal
HasDeal _ = Unit {0}

-- what a member makes of an event
abbrev pub judge : State → Event → Judged
judge s event = judge_in s.phase s event

-- the number that is wanted, or none: only an accepted datagram can want one
abbrev pub number_wanted : Judged → Option ℕ
number_wanted (judged.Datagram p own) = wanted_number own
number_wanted _ = None

-- the number that an event wants
abbrev pub wanted : State → Event → Option ℕ
wanted s event = number_wanted (judge s event)

-- what an act relies on of what was judged: a tick counts, a datagram has
-- a text, and what is wanted is above the own number, and not above the last
abbrev pub MayAct : State → Judged → Type 0
MayAct s (judged.Tick deal) = s.time < LAST_TIME
MayAct s (judged.Datagram p own) =
    HasText p × IfSome (wanted_number own) (λ n. (s.number < n) × (n ≤ NUMBER_MAX))
MayAct s _ = Unit {0}
