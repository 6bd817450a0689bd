use Rattle.std.proofs.Common.{◌≡◌, ◌∙◌, ◌<◌, ◌∷◌, ◌++◌, [], ◌-◌, ap, arith, drop, length, sym, take}
use Rattle.std.proofs.Math.Arith.{lt_of_le-ne}
use Rattle.swim_member.specs.declared.answer.TheConstants.{OUTS_MAX}
use Rattle.swim_library.specs.Outbox.{OutboxState, all_as}
use Rattle.swim_library.proofs.Waiting.{waits_more}
use Rattle.swim_library.proofs.outbox.OutboxLink.send.Goals as goal

pub returns-clause-took : goal.returns-clause-took
returns-clause-took c =
    let o = c.self-2.inside in
    let same : OUTS_MAX - c.self.inside.end ≡ OUTS_MAX - o.end = ap (λ (s : OutboxState). s.room) c.self.view_is ∙ sym (ap (λ (s : OutboxState). s.room) c.self-2.view_is) in
    let room : o.end < length o.places = lt_of_le-ne c.self-2.invariant.1 (λ full. c.if-self-eq-OUTS_MAX.false (omega (arith, same, full, c.self-2.invariant.2, c.self.invariant.1, c.self.invariant.2))) in
    waits_more o.places o.begin o.end _ c.self-2.invariant.0 room
    ∙ (ap (λ w. all_as (drop o.begin (take o.end o.places)) ++ w ∷ []) c.write.ensures
    ∙ ap (λ (s : OutboxState). s.waiting ++ (c.args.to, c.args.bytes.now) ∷ []) c.self-2.view_is)
