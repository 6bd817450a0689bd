use Rattle.std.proofs.Common.{◌∙◌, refl, ap, List, map, arith}
use Rattle.swim_wire.specs.declared.update.Update.{Update}
use Rattle.swim_member.specs.Events.{Hear, Reply, perform, outs}
use Rattle.swim_member.specs.Machinery.Steps.{after, notes_by}
use Rattle.swim_member.proofs.Adding.{adds-then, adds-as}
use Rattle.swim_member.proofs.Received.{ReceivedBy, received-state, received-outs, received-notes}
use Rattle.swim_member.proofs.member.Member.receive.Goals as goal

by_parts : (c : goal.After-reply) → ReceivedBy c.args.self.now c.hear_all.new.self c.settle_number.new.self c.reply.new.self c.args.datagram.now c.args.own c.args.granted
by_parts c = record {
  heard = c.hear_all.ensures.state ∙ ap (λ (us : List Update). after c.args.self.now (map (λ u. Hear u) us)) c.deref.ensures.0;
  settled = c.settle_number.ensures.state;
  replied = c.reply.ensures.state;
}

pub returns-clause-state : goal.returns-clause-state
returns-clause-state c = received-state _ _ _ _ c.args.datagram.now c.args.own c.args.granted (by_parts c)

pub returns-clause-answer : goal.returns-clause-answer
returns-clause-answer c =
    adds-as _ _ _ _ _ _ _ _ _ _
    (received-outs c.args.self.now c.hear_all.new.self c.settle_number.new.self c.reply.new.self c.args.datagram.now c.args.own c.args.granted (outs (perform c.settle_number.new.self (Reply c.args.datagram.now))) (by_parts c) refl)
    (omega arith)
    (received-notes c.args.self.now c.hear_all.new.self c.settle_number.new.self c.reply.new.self c.args.datagram.now c.args.own c.args.granted _ _ _ _ (by_parts c)
    (ap (λ (us : List Update). notes_by c.args.self.now (map (λ u. Hear u) us)) c.deref.ensures.0) refl refl refl)
    (adds-then _ _ _ _ _ _ _ _ _ _ _ _ (adds-then _ _ _ _ _ _ _ _ _ _ _ _ c.hear_all.ensures.answer c.settle_number.ensures.answer) c.reply.ensures.answer)
