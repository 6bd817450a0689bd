use Rattle.std.proofs.Common.{◌≡◌, ℕ, List, ◌++◌, length}
use Rattle.swim_record.specs.Blocks.{AreFit}
use Rattle.swim_record.specs.Recording.{lines_text}
use Rattle.swim_record.specs.declared.line.Line.{Line}
use Rattle.swim_replay.proofs.Lines.{HasLines}
use Rattle.swim_replay.proofs.playing.after_lines.Given as goal

-- where the text begins with so many lines, what is left begins with the rest of them
abbrev pub invariant-loop : goal.invariant-loop
invariant-loop l = (lines : List Line) (rest : List ℕ) → AreFit lines → length lines ≡ l.count → l.text ≡ lines_text lines ++ rest → HasLines l.rest l.counter l.count rest
