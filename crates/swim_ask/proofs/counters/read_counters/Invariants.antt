use Rattle.std.proofs.Common.{◌≡◌, length}
use Rattle.swim_ask.proofs.Counted.{LeftOf, ReadSoFar}
use Rattle.swim_ask.proofs.CounterLines.{line_at}
use Rattle.swim_ask.proofs.counters.read_counters.Given as goal

-- the lines that were read, and what is left, also of whatever the answer may say
abbrev pub invariant-loop-place : goal.invariant-loop-place
invariant-loop-place l = record {
  read : ReadSoFar line_at l.initial.left l.left l.values l.place;
  long : length l.values ≡ 30;
  only : LeftOf line_at 30 l.initial.left l.left l.place;
}
