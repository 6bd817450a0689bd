use Rattle.std.proofs.Common.{take}
use Rattle.swim_words.specs.Words.{Lacks}
use Rattle.swim_record.proofs.argument.first_word.Given as goal

-- there is no space in what was passed
abbrev pub invariant-loop-index : goal.invariant-loop-index
invariant-loop-index l = Lacks 32 (take l.index l.text)
