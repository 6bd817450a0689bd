use Rattle.std.proofs.Common.{◌≡◌, ◌+◌, ◌*◌, ◌≤◌, ◌++◌, length, take}
use Rattle.swim_shell.specs.Counters.{counter_line, lines_from}
use Rattle.swim_shell.proofs.counters.add_counters.Given as goal

-- the head, and the lines so far
abbrev pub invariant-loop-place : goal.invariant-loop-place
invariant-loop-place l = record {
  text : l.answer.bytes ≡ l.initial.answer.bytes ++ lines_from counter_line 0 (take l.place l.counters.values);
  short : length l.answer.bytes ≤ 24 + 40 * l.place;
}
