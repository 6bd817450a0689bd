use Rattle.std.proofs.Common.{◌≡◌, ◌<◌, ◌≤◌, ℕ, true}
use Rattle.swim_gossip.specs.Buckets.{at}
use Rattle.swim_gossip.proofs.buckets.step_back.Given as goal

abbrev pub invariant-loop-begin : goal.invariant-loop-begin
invariant-loop-begin l = record {
  same : (x : ℕ) → l.begin ≤ x → x < l.place → (at l.slots x).waits ≡ true → (at l.slots x).count ≡ l.count;
  back : l.begin ≤ l.place;
}

abbrev pub decreases-loop-begin : goal.decreases-loop-begin
decreases-loop-begin l = l.begin
