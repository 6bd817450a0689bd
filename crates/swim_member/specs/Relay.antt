-- Pings for another member: made, live for a period, answered once.
use Rattle.std.specs.List.{find}
use Rattle.std.specs.Prelude.{ℕ, ◌==◌, ◌&&◌, Bool, not, List, [], ◌∷◌, length, if◌then◌else◌}
use Rattle.std.specs.Prelude.{Option, Some, None}
use Rattle.swim_member.specs.Member.{is_eligible_name}
use Rattle.swim_member.specs.Send.{send}
use Rattle.swim_member.specs.State.{State, Change, SequenceTaken, Relayed, Unrelayed, Noted}
use Rattle.swim_member.specs.declared.member.TheConstants.{RELAYS_MAX}
use Rattle.swim_member.specs.declared.state.Relay.{Relay}
use Rattle.swim_wire.specs.declared.datagram.Datagram.{Datagram}
use Rattle.swim_wire.specs.declared.datagram.Kind.TheVariants.{Ping, Ack}
use Rattle.swim_member.specs.declared.note.Note.TheVariants as note

-- the relay that a ping-req asks for, by the sequence of its ping
abbrev pub relay_for : State → Datagram → Relay
relay_for s p =
    record { target = p.subject; seq = s.seq; asker = p.sender; asked = p.seq; made = s.time }

-- the target is pinged for the one that asked
abbrev pub relay_ping : State → Datagram → List Change
relay_ping s p =
    send s p.subject Ping s.seq p.subject ∷ Relayed (relay_for s p) ∷ SequenceTaken ∷ []

-- a ping-req about oneself is answered with an ack; one about another
-- member is relayed, if that member is eligible and there is room
abbrev pub on_ping_req : State → Datagram → List Change
on_ping_req s p =
    if p.subject == s.settings.me then send s p.sender Ack p.seq s.settings.me ∷ []
    else (if not (is_eligible_name s p.subject) then Noted note.UnknownTarget ∷ []
    else (if length s.relays == RELAYS_MAX then Noted note.RelaysFull ∷ []
    else relay_ping s p))

-- an ack answers what was asked of this target with this sequence
abbrev pub is_for : Datagram → ℕ → ℕ → Bool
is_for p seq target = p.seq == seq && p.subject == target

-- the ack answers the relay: it comes from the target itself
abbrev pub is_answered : Datagram → Relay → Bool
is_answered p r = is_for p r.seq r.target && p.subject == p.sender

-- an ack for a relay is passed on to the member that asked; one that nothing asked for is noted
abbrev pub on_relayed_ack : State → Datagram → Option Relay → List Change
on_relayed_ack s p (Some r) = send s r.asker Ack r.asked r.target ∷ Unrelayed r ∷ []
on_relayed_ack s p None = Noted note.Unasked ∷ []

-- an ack that is not for the open probe may be for a relay
abbrev pub on_other_ack : State → Datagram → List Change
on_other_ack s p = on_relayed_ack s p (find (is_answered p) s.relays)
