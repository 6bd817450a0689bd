use Rattle.std.proofs.Common.{◌≡◌, ◌<◌, ◌+◌, ◌*◌, ◌%◌, ◌∙◌, sym, refl, ap, List, [], ◌∷◌, ◌++◌, length, take, arith}
use Rattle.std.proofs.lemmas.List.{take_more_set, length-take-le}
use Rattle.swim_wire.specs.declared.rules.Rules.{Rules}
use Rattle.swim_wire.specs.declared.update.Update.{Update}
use Rattle.swim_gossip.specs.Queue.{picked_updates}
use Rattle.swim_member.specs.contracts.member.Member.{the_view}
use Rattle.swim_member.specs.declared.answer.Out.{Out}
use Rattle.swim_member.specs.State.{State}
use Rattle.swim_member.specs.Fit.{may_say}
use Rattle.swim_member.specs.Send.{bits, datagram, carried_updates}
use Rattle.swim_member.proofs.Keeping.{keep-raised}
use Rattle.swim_member.proofs.Lows.{all-picked, fit-said}
use Rattle.swim_member.proofs.Adding.{adds-one, adds-as}
use Rattle.swim_member.proofs.member.Member.send.Goals as goal

-- the datagram as it is written
abbrev out : (c : goal.After-outs-2-1) → Out
out c = record { to = c.args.to; datagram = record { version = c.rules_of-place.result; kind = c.args.kind; group = c.self.inside.settings.group; seq = c.args.seq; sender = c.self.inside.settings.me; subject = c.at-place.result; updates = c.pick_into.new.updates } }

carried : (c : goal.After-outs-2-1) → c.pick_into.new.updates.items ≡ carried_updates c.args.self.now
carried c =
    c.pick_into.ensures.picked
    ∙ ap (λ b. picked_updates (c.self.inside.settings.lambda * b) 30 c.self.inside.buffer.queue) (c.bits_of.ensures.value ∙ ap (λ n. bits (1 + n)) c.count.ensures.count)
    ∙ ap carried_updates c.self.view_is

same : (c : goal.After-outs-2-1) → out c ≡ record { to = c.args.to; datagram = datagram c.args.self.now c.args.kind c.args.seq c.args.subject (carried_updates c.args.self.now) }
same c =
    ap (λ (v : Rules). record (out c) { datagram = record (out c).datagram { version = v } }) c.rules_of-place.ensures
    ∙ ap (λ (s : State). record { to = c.args.to; datagram = datagram s c.args.kind c.args.seq c.at-place.result (out c).datagram.updates.items }) c.self.view_is
    ∙ ap (λ x. record { to = c.args.to; datagram = datagram c.args.self.now c.args.kind c.args.seq x (out c).datagram.updates.items }) c.at-place.ensures
    ∙ ap (λ (us : List Update). record { to = c.args.to; datagram = datagram c.args.self.now c.args.kind c.args.seq c.args.subject us }) (carried c)

pub invariant_of-self : goal.invariant_of-self
invariant_of-self c = (
  rw c.pick_into.ensures.counted (keep-raised c.self.inside.settings c.self.inside.number c.self.inside.time c.self.inside.table c.self.inside.buffer c.self.inside.relays.items
      (picked_updates (c.self.inside.settings.lambda * c.bits_of.result) 30 c.self.inside.buffer.queue) c.self.invariant.0),
  c.self.invariant.1,
)

pub returns-clause-answer : goal.returns-clause-answer
returns-clause-answer c =
    let old = c.args.answer.now.outs.items in
    let filled : take c.outs.inside.len c.outs.inside.places ≡ old = ap (λ o. o.items) c.outs.view_is in
    let few : length old < 10 = c.requires.room in
    let many : c.outs.inside.len ≡ length old = sym (length-take-le c.outs.inside.len c.outs.inside.places (omega arith)) ∙ ap length filled in
    let room : c.outs.inside.len < length c.outs.inside.places = omega arith in
    adds-as _ _ _ _ _ _ _ _ _ _ (ap (λ (o : Out). o ∷ []) (same c)) (omega arith) refl
    (adds-one c.args.self.now (the_view (record c.self.inside { buffer = c.pick_into.new.self })) c.args.answer.now _ (out c)
    (take_more_set c.outs.inside.places c.outs.inside.len (out c) room ∙ ap (λ os. os ++ out c ∷ []) filled) refl refl
    (ap (λ (s : State). s.settings) c.self.view_is) (ap (λ (s : State). s.number) c.self.view_is)
    (fit-said c.self.inside.settings.me c.self.inside.number (out c)
    (λ e. let none : c.args.subject ≡ 0 = sym c.at-place.ensures ∙ e in
    let port : 0 < c.args.subject % 65536 = c.is_above_zero.ensures.positive in
    omega arith)
    (rw c.pick_into.ensures.picked (all-picked (may_say c.self.inside.settings.me c.self.inside.number) (c.self.inside.settings.lambda * c.bits_of.result) 30 c.self.inside.buffer.queue c.self.invariant.0.say))))
