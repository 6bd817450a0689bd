use Rattle.std.proofs.Common.{◌≡◌, ◌+◌, ◌≤◌, ℕ, true, drop, map, take}
use Rattle.swim_gossip.specs.Buckets.{at, raised_at}
use Rattle.swim_gossip.proofs.buckets.send_at.Given as goal

-- those before are put in, those to come are still to be counted, and no update changes
abbrev pub invariant-loop-place : goal.invariant-loop-place
invariant-loop-place l = record {
  updates : l.updates.items ≡ map (λ (x : ℕ). (at l.fn.slots x).update) (take l.place-index l.places);
  slots : raised_at (drop l.place-index l.places) l.slots ≡ raised_at l.places l.fn.slots;
  counts : (x : ℕ) → (at l.slots x).waits ≡ true → (at l.slots x).count ≤ 144 + l.place-index;
  same : (x : ℕ) → (at l.slots x).update ≡ (at l.fn.slots x).update;
  waits : (x : ℕ) → (at l.slots x).waits ≡ (at l.fn.slots x).waits;
}
