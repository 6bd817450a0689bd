use Rattle.std.proofs.Common.{◌≡◌, drop}
use Rattle.swim_gossip.specs.Queue.{is_queued}
use Rattle.swim_gossip.specs.Buckets.{queue_in}
use Rattle.swim_gossip.proofs.slots.place_of.Given as goal

-- none so far is about the member
abbrev pub invariant-loop-place : goal.invariant-loop-place
invariant-loop-place l = record {
  none : is_queued l.who (queue_in l.slots) ≡ is_queued l.who (queue_in (drop l.place l.slots));
  visits : l.visits ≡ 1;
}
