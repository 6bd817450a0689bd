use Rattle.std.proofs.Common.{◌≡◌, ◌≤◌, ℕ, false, length}
use Rattle.swim_gossip.specs.Buckets.{at}
use Rattle.swim_gossip.proofs.buckets.end_of.Given as goal

abbrev pub invariant-loop-end : goal.invariant-loop-end
invariant-loop-end l = record {
  within : l.end ≤ length l.slots;
  gaps : (x : ℕ) → l.end ≤ x → (at l.slots x).waits ≡ false;
}

abbrev pub decreases-loop-end : goal.decreases-loop-end
decreases-loop-end l = l.end
