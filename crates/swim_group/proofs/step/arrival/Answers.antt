use Rattle.std.proofs.Common.{rules, ◌≡◌, refl, subst, sym}
use Rattle.swim_wire.specs.Spelling.{Spells}
use Rattle.swim_group.proofs.Holding.{decoded-spelled}
use Rattle.swim_group.proofs.step.arrival.Goals as goal

pub returns : goal.returns
returns c =
    let items : c.try_extend_from_slice.new.self.items ≡ c.encode-text.result.items = search rules in
    let spelled : Spells c.try_extend_from_slice.new.self.items c.args.out.now.datagram = subst (λ b. Spells b c.args.out.now.datagram) (sym items) c.encode-text.ensures in
    (refl, decoded-spelled c.try_extend_from_slice.new.self.items c.args.out.now.datagram spelled)
