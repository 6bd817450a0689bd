use Rattle.std.proofs.Common.{◌≡◌, length, take, ap, ◌∙◌, arith}
use Rattle.std.specs.List.{filter}
use Rattle.swim_gossip.specs.declared.slots.BufferSlot.{BufferSlot}
use Rattle.swim_gossip.specs.Buckets.{queue_in}
use Rattle.swim_gossip.proofs.Places.{refilled, waiting-closed, length-closed}
use Rattle.swim_gossip.proofs.slots.close_gaps.Goals as goal

-- what is left is what was no gap
closed : (c : goal.After-look_at-2) → c.truncate.new.self.items ≡ filter (λ (s : BufferSlot). s.waits) c.args.slots.now.items
closed c =
    c.truncate.ensures.items
    ∙ ap (take c.move_together-kept.result) (refilled c.args.slots.now.items c.move_together-kept.new.slots (c.move_together-kept.ensures.long ∙ ap length c.deref_mut.ensures.value))
    ∙ c.move_together-kept.ensures.front
    ∙ ap (filter (λ (s : BufferSlot). s.waits)) c.deref_mut.ensures.value

pub returns-clause-queue : goal.returns-clause-queue
returns-clause-queue c = ap queue_in (closed c) ∙ waiting-closed c.args.slots.now.items

pub returns-clause-closed : goal.returns-clause-closed
returns-clause-closed c = ap length (closed c) ∙ length-closed c.args.slots.now.items

pub returns-clause-visits : goal.returns-clause-visits
returns-clause-visits c = omega (arith, returns-clause-closed c, c.len-2.ensures.value, c.look_at-2.ensures, c.look_at.ensures, c.len.ensures.value, c.len.ensures.fits, c.requires.few)
