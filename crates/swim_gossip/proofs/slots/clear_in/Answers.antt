use Rattle.std.proofs.Common.{ℕ, length, set, ap, ◌∙◌, ◌+◌}
use Rattle.std.proofs.lemmas.Bool.{and_parts, eqb-true}
use Rattle.swim_gossip.specs.declared.slots.BufferSlot.{BufferSlot}
use Rattle.swim_gossip.specs.Buckets.{at, queue_in}
use Rattle.swim_gossip.proofs.Places.{gap, waiting-cleared, fewer-cleared, without-none}
use Rattle.swim_gossip.proofs.Raised.{at-read}
use Rattle.swim_gossip.proofs.slots.clear_in.Goals as goal

pub returns-then-place-slots-clause-queue : goal.returns-then-place-slots-clause-queue
returns-then-place-slots-clause-queue c =
    let place : ℕ = c.place_of-place.result in
    let parts = and_parts (at c.args.slots.now c.place_of-place.result).waits _ (c.place_of-place.ensures.found c.if-place-slots.true) in
    ap (λ (s : BufferSlot). queue_in (set c.args.slots.now place (gap s))) (at-read c.args.slots.now place _ c.if-place-slots.true)
    ∙ waiting-cleared c.args.slots.now place c.args.who c.requires.apart parts.0 (eqb-true _ _ parts.1)

pub returns-then-place-slots-clause-fewer : goal.returns-then-place-slots-clause-fewer
returns-then-place-slots-clause-fewer c =
    let place : ℕ = c.place_of-place.result in
    let parts = and_parts (at c.args.slots.now c.place_of-place.result).waits _ (c.place_of-place.ensures.found c.if-place-slots.true) in
    ap (λ (s : BufferSlot). length (queue_in (set c.args.slots.now place (gap s))) + 1) (at-read c.args.slots.now place _ c.if-place-slots.true)
    ∙ fewer-cleared c.args.slots.now place parts.0

pub returns-clause-queue : goal.returns-clause-queue
returns-clause-queue c = without-none c.args.who c.args.slots.now (c.place_of-place.ensures.none c.if-place-slots.false)
