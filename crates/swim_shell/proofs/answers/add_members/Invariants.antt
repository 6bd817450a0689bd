use Rattle.std.proofs.Common.{◌≡◌, ◌+◌, ◌*◌, ◌≤◌, ◌++◌, length, take}
use Rattle.swim_shell.specs.Answers.{rows_text}
use Rattle.swim_shell.proofs.answers.add_members.Given as goal

-- the head, and the rows so far
abbrev pub invariant-loop-row : goal.invariant-loop-row
invariant-loop-row l = record {
  text : l.answer.bytes ≡ l.initial.answer.bytes ++ rows_text (take l.row-index l.page);
  short : length l.answer.bytes ≤ 24 + 51 * l.row-index;
}
