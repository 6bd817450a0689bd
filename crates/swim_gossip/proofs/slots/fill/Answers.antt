use Rattle.std.proofs.Common.{◌++◌, ◌∷◌, [], List, take, ap, sym, ◌∙◌, arith}
use Rattle.std.proofs.lemmas.List.{take_more}
use Rattle.swim_gossip.specs.declared.buffer.Waiting.{Waiting}
use Rattle.swim_gossip.specs.declared.slots.BufferSlot.{BufferSlot}
use Rattle.swim_gossip.specs.Buckets.{queue_in}
use Rattle.swim_gossip.proofs.Places.{waiting-append}
use Rattle.swim_gossip.proofs.slots.fill.Goals as goal

pub loop-waits-preserved : goal.loop-waits-preserved
loop-waits-preserved c = record {
  waiting = ap queue_in c.push.ensures.items
      ∙ waiting-append c.loop-waits.slots.items _
      ∙ ap (λ (s : BufferSlot). queue_in c.loop-waits.slots.items ++ queue_in (s ∷ [])) c.new.ensures
      ∙ ap (λ (ws : List Waiting). ws ++ c.waits-item.result ∷ []) c.loop-waits.invariant.waiting
      ∙ ap (λ (w : Waiting). take c.loop-waits.waits-index c.args.queue.now ++ w ∷ []) c.waits-item.is
      ∙ sym (take_more c.args.queue.now c.loop-waits.waits-index c.waits-item.result c.loop-waits-test.true);
  count = omega (arith, c.push.ensures.len, c.loop-waits.invariant.count);
}
