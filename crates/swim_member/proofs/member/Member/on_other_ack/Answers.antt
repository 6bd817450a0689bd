use Rattle.swim_member.proofs.Keeping.{keep-made}
use Rattle.swim_member.proofs.Bases.{live-answered}
use Rattle.swim_member.proofs.member.Member.on_other_ack.Goals as goal

pub invariant_of-self : goal.invariant_of-self
invariant_of-self c = (
  keep-made c.self.inside.settings c.self.inside.number c.self.inside.time c.self.inside.time c.self.inside.table c.self.inside.buffer c.self.inside.relays.items c.remove_relay.new.relays.items
      c.self.invariant.0.time (live-answered c.self.inside.time c.self.inside.settings.period c.self.inside.relays.items c.remove_relay.new.relays.items c.in-Some.relay c.self.invariant.0.live c.remove_relay.ensures) c.self.invariant.0,
  c.self.invariant.1,
)
