use Rattle.std.proofs.Common.{◌≡◌, ◌-◌, ◌<◌, ◌≤◌, ap, inl, inr, ◌∙◌, arith, get_or, length}
use Rattle.std.proofs.lemmas.Bool.{cases_lt}
use Rattle.swim_gossip.specs.declared.slots.BufferSlot.{BufferSlot}
use Rattle.swim_gossip.specs.Buckets.{at}
use Rattle.swim_gossip.proofs.Raised.{at-read}
use Rattle.swim_gossip.proofs.Falling.{falling-at}
use Rattle.swim_gossip.proofs.buckets.begin_of.Goals as goal

pub returns-clause-same : goal.returns-clause-same
returns-clause-same c = λ x l m w.
    let within : c.args.end - 1 < length c.args.slots.now = omega (arith, c.requires.some, c.requires.end) in
    let read : (get_or c.args.slots.now (c.args.end - 1) c.index-slots-end.result).count ≡ (at c.args.slots.now (c.args.end - 1)).count = ap (λ (s : BufferSlot). s.count) (at-read c.args.slots.now (c.args.end - 1) c.index-slots-end.result within) in
    elim (cases_lt x c.stride_back-near.result) [
      | inl o ↦ c.step_back.ensures.same x l o w ∙ read
      | inr o ↦
          let low : (at c.args.slots.now (c.args.end - 1)).count ≤ (at c.args.slots.now x).count = falling-at c.args.slots.now x (c.args.end - 1) c.requires.falling (omega arith) w c.requires.last in
          let most : (at c.args.slots.now x).count ≤ (at c.args.slots.now c.stride_back-near.result).count = falling-at c.args.slots.now c.stride_back-near.result x c.requires.falling o c.stride_back-near.ensures.here w in
          let near : (at c.args.slots.now c.stride_back-near.result).count ≡ (at c.args.slots.now (c.args.end - 1)).count = c.stride_back-near.ensures.same ∙ read in
          omega (arith, low, most, near)
    ]
