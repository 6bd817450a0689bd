use Rattle.std.proofs.Common.{◌≡◌, ◌≤◌, ℕ, List, length}
use Rattle.swim_disk.specs.Machinery.Made.{AreWrites, made}
use Rattle.swim_disk.proofs.made.drop_covered.Given as goal

abbrev pub invariant-loop-place : goal.invariant-loop-place
invariant-loop-place l =
    record {
      made : (start : List ℕ) → made start l.writes.items ≡ made start l.initial.writes.items;
      writes : AreWrites l.initial.writes.items → AreWrites l.writes.items;
      count : l.place ≤ length l.writes.items;
    }

abbrev pub decreases-loop-place : goal.decreases-loop-place
decreases-loop-place l = l.place
