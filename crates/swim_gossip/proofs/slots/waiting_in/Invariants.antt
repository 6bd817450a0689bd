use Rattle.std.proofs.Common.{◌≡◌, ◌++◌, drop}
use Rattle.swim_gossip.specs.Buckets.{queue_in}
use Rattle.swim_gossip.proofs.slots.waiting_in.Given as goal

abbrev pub invariant-loop-slot : goal.invariant-loop-slot
invariant-loop-slot l = record {
  so_far : queue_in l.slots ≡ l.queue.items ++ queue_in (drop l.slot-index l.slots);
}
