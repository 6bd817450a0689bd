use Rattle.std.proofs.Common.{◌<◌, length, ap, sym, ◌∙◌, arith}
use Rattle.std.proofs.lemmas.List.Filters.{FiltersInPlace-more_set, FiltersInPlace-more_no}
use Rattle.swim_gossip.specs.declared.slots.BufferSlot.{BufferSlot}
use Rattle.swim_gossip.proofs.Raised.{at-read}
use Rattle.swim_gossip.proofs.slots.move_together.Goals as goal

pub loop-place-preserved : goal.loop-place-preserved
loop-place-preserved c =
    let within : c.loop-place.place < length c.loop-place.slots = omega (arith, c.loop-place-test.true, c.loop-place.auto.slots) in
    elim c.if-slots-place.branch [
      | goal.then-slots-place w ↦
          rw (w.slots-is, w.kept-is) (FiltersInPlace-more_set {x = w.index-slots-place-then-slots-place-2.result} c.loop-place.invariant within
          (ap (λ (s : BufferSlot). s.waits) (w.index-slots-place-then-slots-place-2.is ∙ at-read c.loop-place.slots c.loop-place.place _ within ∙ sym (at-read c.loop-place.slots c.loop-place.place _ within)) ∙ w.if-slots-place.true)
          w.index-slots-place-then-slots-place-2.is)
      | goal.else-slots-place w ↦ rw (w.slots-is, w.kept-is) (FiltersInPlace-more_no {x = c.index-slots-place.result} c.loop-place.invariant within (ap (λ (s : BufferSlot). s.waits) c.index-slots-place.is ∙ w.if-slots-place.false) c.index-slots-place.is)
    ]
