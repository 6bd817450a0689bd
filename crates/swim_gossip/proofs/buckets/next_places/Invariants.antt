use Rattle.std.proofs.Common.{◌≡◌, ◌<◌, ◌+◌, ◌-◌, ◌*◌, ◌≤◌, true, length}
use Rattle.swim_gossip.specs.Buckets.{at}
use Rattle.swim_gossip.proofs.Falling.{AreTaken}
use Rattle.swim_gossip.proofs.buckets.next_places.Given as goal

-- the buckets from end on are taken
abbrev pub invariant-loop-end : goal.invariant-loop-end
invariant-loop-end l = record {
  taken : AreTaken l.slots l.end l.limit l.room l.places.items;
  last : 0 < l.end → (at l.slots (l.end - 1)).waits ≡ true;
  room : length l.places.items ≤ l.room;
  within : l.end ≤ length l.slots;
  visits : l.visits + 2 * l.end ≤ 2 + 2 * length l.slots + 3 * length l.places.items;
}

abbrev pub decreases-loop-end : goal.decreases-loop-end
decreases-loop-end l = l.end
