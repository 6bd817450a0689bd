-- What a datagram is answered with.
use Rattle.std.specs.Prelude.{◌==◌, true, List, [], ◌∷◌, if◌then◌else◌, Option, Some, None}
use Rattle.swim_member.specs.Join.{on_join, on_page}
use Rattle.swim_member.specs.Relay.{on_ping_req, is_for, on_other_ack}
use Rattle.swim_member.specs.Send.{send}
use Rattle.swim_member.specs.State.{State, Change, Probed, Noted}
use Rattle.swim_member.specs.declared.state.Probe.{Probe}
use Rattle.swim_wire.specs.declared.datagram.Datagram.{Datagram}
use Rattle.swim_wire.specs.declared.datagram.Kind.{Kind}
use Rattle.swim_wire.specs.declared.datagram.Kind.TheVariants.{Ping, PingReq, Ack, Join, Page}
use Rattle.swim_member.specs.declared.note.Note.TheVariants as note

-- a ping is answered with an ack, if it was meant for this member
abbrev pub on_ping : State → Datagram → List Change
on_ping s p =
    if p.subject == s.settings.me
    then send s p.sender Ack p.seq s.settings.me ∷ []
    else Noted note.Misdirected ∷ []

-- an ack answers the open probe, a relay or nothing
abbrev pub on_ack : State → Datagram → Option Probe → List Change
on_ack s p (Some q) =
    if is_for p q.seq q.target
    then Probed (Some (record { target = q.target; seq = q.seq; answered = true })) ∷ []
    else on_other_ack s p
on_ack s p None = on_other_ack s p

-- what a datagram is answered with, by its kind
abbrev pub reply : State → Kind → Datagram → List Change
reply s Ping p = on_ping s p
reply s PingReq p = on_ping_req s p
reply s Ack p = on_ack s p s.probe
reply s Join p = on_join s p
reply s Page p = on_page s p s.joining
