use Rattle.std.proofs.Common.{◌≡◌, ◌<◌, length, arith}
use Rattle.std.proofs.lemmas.Grind.{common_steps}
use Rattle.swim_net.proofs.Guarding.{head_full, head_room}
use Rattle.swim_net.proofs.guard.Part.add.Goals as goal

pub invariant_of-self : goal.invariant_of-self
invariant_of-self c =
    let full : length c.args.self.now.head.items ≡ 64 = grind (arith, common_steps, c.is_full.ensures.value, c.if-is_full.true) in
    record { part = rw c.and-self.ensures (head_full _ _ _ _ c.args.self.now.part full) }

pub invariant_of-self-2 : goal.invariant_of-self-2
invariant_of-self-2 c =
    let room : length c.args.self.now.head.items < 64 = grind (arith, common_steps, c.is_full.ensures.value, c.is_full.ensures.fits, c.if-is_full.false) in
    record { part = rw c.and-self.ensures (rw c.push.ensures.items (head_room _ _ _ _ c.args.self.now.part room)) }
