use Rattle.std.proofs.Common.{◌≡◌, drop}
use Rattle.std.specs.List.{find}
use Rattle.swim_member.specs.Relay.{is_answered}
use Rattle.swim_member.proofs.relay.answered_relay.Given as goal

-- no relay so far is answered
abbrev pub invariant-loop-relay : goal.invariant-loop-relay
invariant-loop-relay l = find (is_answered l.ack) (drop l.relay-index l.relays) ≡ find (is_answered l.ack) l.relays
