use Rattle.std.proofs.Common.{◌≡◌, length}
use Rattle.swim_ask.specs.Machinery.Counts.{status_at}
use Rattle.swim_ask.proofs.Counted.{LeftOf, ReadSoFar}
use Rattle.swim_ask.proofs.status.read_counts.Given as goal

-- the counts that were read, and what is left, also of whatever the text may say
abbrev pub invariant-loop-place : goal.invariant-loop-place
invariant-loop-place l = record {
  read : ReadSoFar status_at l.text l.left l.counts l.place;
  long : length l.counts ≡ 5;
  only : LeftOf status_at 5 l.text l.left l.place;
}
