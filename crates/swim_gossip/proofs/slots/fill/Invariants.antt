use Rattle.std.proofs.Common.{◌≡◌, length, take}
use Rattle.swim_gossip.specs.Buckets.{queue_in}
use Rattle.swim_gossip.proofs.slots.fill.Given as goal

abbrev pub invariant-loop-waits : goal.invariant-loop-waits
invariant-loop-waits l = record {
  waiting : queue_in l.slots.items ≡ take l.waits-index l.queue;
  count : length l.slots.items ≡ l.waits-index;
}
