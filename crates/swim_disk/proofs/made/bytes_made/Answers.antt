use Rattle.std.proofs.Common.{◌∙◌, ap, arith, List, ℕ, length, sym, ◌∷◌, []}
use Rattle.swim_disk.specs.Machinery.Made.{made}
use Rattle.swim_disk.proofs.Making.{ends_made, first_shorter, made_next}
use Rattle.swim_disk.proofs.made.bytes_made.Goals as goal

pub redo-requires-clause-size : goal.redo-requires-clause-size
redo-requires-clause-size c = omega (arith, ap (λ (l : List ℕ). length l) c.loop-call.invariant, first_shorter c.args.start.now c.args.writes.now c.loop-call.call-index, c.requires)

pub redo-requires-clause-room : goal.redo-requires-clause-room
redo-requires-clause-room c = omega (arith, ends_made c.args.start.now c.args.writes.now c.loop-call.call-index c.call-item.result c.loop-call-test.true c.call-item.is, c.requires)

pub loop-call-preserved : goal.loop-call-preserved
loop-call-preserved c =
    c.in_ok-redo.ensures
    ∙ ap (λ (l : List ℕ). made l (c.call-item.result ∷ [])) c.loop-call.invariant
    ∙ sym (made_next c.args.start.now c.args.writes.now c.loop-call.call-index c.call-item.result c.loop-call-test.true c.call-item.is)
