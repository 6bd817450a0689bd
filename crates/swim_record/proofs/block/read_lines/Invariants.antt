use Rattle.std.proofs.Common.{◌≡◌, ◌++◌, length}
use Rattle.swim_record.specs.Blocks.{AreFit}
use Rattle.swim_record.specs.Recording.{lines_text}
use Rattle.swim_record.proofs.block.read_lines.Given as goal

-- what was read, and what is left, are the text
abbrev pub invariant-loop-line : goal.invariant-loop-line
invariant-loop-line l = record { read : l.text ≡ lines_text l.lines.items ++ l.rest; fit : AreFit l.lines.items }

abbrev pub decreases-loop-line : goal.decreases-loop-line
decreases-loop-line l = length l.rest
