use Rattle.std.proofs.Common.{take}
use Rattle.swim_words.specs.Words.{Lacks}
use Rattle.swim_words.proofs.words.split_at_byte.Given as goal

-- the byte isn't in what was passed
abbrev pub invariant-loop-index : goal.invariant-loop-index
invariant-loop-index l = Lacks l.byte (take l.index l.text)
