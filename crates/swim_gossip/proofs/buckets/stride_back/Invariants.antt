use Rattle.std.proofs.Common.{◌≡◌, ◌+◌, ◌≤◌, true}
use Rattle.swim_gossip.specs.Buckets.{at}
use Rattle.swim_gossip.proofs.buckets.stride_back.Given as goal

abbrev pub invariant-loop-begin : goal.invariant-loop-begin
invariant-loop-begin l = record {
  here : (at l.slots l.begin).waits ≡ true;
  same : (at l.slots l.begin).count ≡ l.count;
  back : l.begin + l.strides ≤ l.place;
}

abbrev pub decreases-loop-begin : goal.decreases-loop-begin
decreases-loop-begin l = l.begin
