use Rattle.std.proofs.Common.{rules, ◌≡◌, ◌++◌, ◌∷◌, [], ◌∙◌, sym, ap, arith, append_assoc, length, length-append, map}
use Rattle.std.proofs.lemmas.List.{map-append}
use Rattle.rtrb.specs.Ring.{received, known_items}
use Rattle.swim_shared.specs.Outboxes.{ring_from, destination_and_bytes, got}
use Rattle.swim_shared.proofs.Handing.{handed_more, lost_none, lost_one}
use Rattle.swim_shared.proofs.sender.hand.Goals as goal
use Rattle.swim_shared.proofs.sender.hand.Goals.{then-is_err, else-is_err}

pub loop-i-preserved : goal.loop-i-preserved
loop-i-preserved g c =
    let i = c.loop-i.invariant in
    let pop = c.pop_known-packet in
    let packet = pop.result in
    let e = c.send.ensures in
    let bytes : c.deref.result.now ≡ packet.bytes.items = c.deref.ensures.0 in
    let old = received c.loop-i.ring in
    let rest = known_items pop.new.self in
    let out = ap (map destination_and_bytes) pop.ensures.received.0 ∙ map-append destination_and_bytes old (packet ∷ []) in
    let handed = handed_more g.L.Link.tells g.L.Link.took g.L.Link.failures (got c.args.ring.now) (got c.loop-i.ring) (got pop.new.self) c.args.link.now c.loop-i.link c.send.new.self (destination_and_bytes packet) c.send.result i.2 out (rw (← bytes) e.took) e.failures in
    let items = ap (λ r. r ++ rest) pop.ensures.received.0 ∙ append_assoc old (packet ∷ []) rest ∙ ap (λ k. old ++ k) (sym pop.ensures.received.1) in
    let more = ap length pop.ensures.received.0 ∙ length-append old (packet ∷ []) in
    let ring : ring_from pop.new.self ≡ ring_from c.args.ring.now = search rules in
    let less = ap length pop.ensures.received.1 in
    elim c.if-is_err.branch [
      | then-is_err w ↦ (ring, e.name ∙ i.1, handed, items ∙ i.3, omega (arith, i.4, more), omega (arith, i.5, less), omega (arith, i.6, w.lost-is), lost_one c.send.result _ _ _ c.loop-i.lost _ (sym c.is_err.ensures.value ∙ w.if-is_err.true) e.failures i.7 w.lost-is)
      | else-is_err w ↦ (ring, e.name ∙ i.1, handed, items ∙ i.3, omega (arith, i.4, more), omega (arith, i.5, less), omega (arith, i.6, w.lost-is), lost_none c.send.result _ _ _ c.loop-i.lost _ (sym c.is_err.ensures.value ∙ w.if-is_err.false) e.failures i.7 w.lost-is)
    ]
