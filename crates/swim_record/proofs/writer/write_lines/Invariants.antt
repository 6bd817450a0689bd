use Rattle.std.proofs.Common.{◌≡◌, ◌++◌, take}
use Rattle.swim_record.specs.Recording.{lines_text}
use Rattle.swim_record.proofs.writer.write_lines.Given as goal

-- the lines so far stand behind what was there
abbrev pub invariant-loop-line : goal.invariant-loop-line
invariant-loop-line l = l.text.bytes.items ≡ l.initial.text.bytes.items ++ lines_text (take l.line-index l.lines)
