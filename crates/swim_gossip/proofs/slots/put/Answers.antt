use Rattle.std.proofs.Common.{◌≡◌, ◌++◌, ◌∷◌, [], List, refl, ap, ◌∙◌}
use Rattle.swim_gossip.specs.declared.buffer.Waiting.{Waiting}
use Rattle.swim_gossip.specs.declared.slots.BufferSlot.{BufferSlot}
use Rattle.swim_gossip.specs.Buckets.{queue_in}
use Rattle.swim_gossip.proofs.Places.{waiting-append}
use Rattle.swim_gossip.proofs.slots.put.Goals as goal

pub returns-clause-queue : goal.returns-clause-queue
returns-clause-queue c =
    let same : queue_in c.if-is_full.slots.items ≡ queue_in c.args.slots.now.items = elim c.if-is_full.branch [
      | goal.then-is_full w ↦ rw w.slots-is w.close_gaps.ensures.queue
      | goal.else-is_full+else-len w ↦ rw w.slots-is refl
    ] in
    ap queue_in c.push.ensures.items
    ∙ waiting-append c.if-is_full.slots.items _
    ∙ ap (λ (s : BufferSlot). queue_in c.if-is_full.slots.items ++ queue_in (s ∷ [])) c.new.ensures
    ∙ ap (λ (ws : List Waiting). ws ++ record { update = c.args.update; count = 0 } ∷ []) same
