use Rattle.std.proofs.Common.{◌≡◌, ◌+◌, drop}
use Rattle.swim_member.specs.Machinery.Steps.{relay_place}
use Rattle.swim_member.proofs.relay.place_of.Given as goal

-- none so far is the same
abbrev pub invariant-loop-i : goal.invariant-loop-i
invariant-loop-i l = relay_place l.relay l.relays ≡ l.i + relay_place l.relay (drop l.i l.relays)
