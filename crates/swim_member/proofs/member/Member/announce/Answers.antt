use Rattle.std.proofs.Common.{refl}
use Rattle.swim_member.proofs.Keeping.{keep-own, room-own}
use Rattle.swim_member.proofs.member.Member.announce.Goals as goal

pub offer-requires-clause-room : goal.offer-requires-clause-room
offer-requires-clause-room c =
    room-own c.self.inside.settings c.self.inside.number c.self.inside.time c.self.inside.table c.self.inside.buffer c.self.inside.relays.items
    (record { kind = c.args.kind; who = c.self.inside.settings.me; number = c.args.number }) refl c.self.invariant.0

pub invariant_of-self : goal.invariant_of-self
invariant_of-self c = (
  rw c.offer.ensures.queue (keep-own c.self.inside.settings c.self.inside.number c.args.number c.self.inside.time c.self.inside.table c.self.inside.buffer c.self.inside.relays.items
      (record { kind = c.args.kind; who = c.self.inside.settings.me; number = c.args.number }) refl refl c.requires c.self.invariant.0),
  c.self.invariant.1,
)
