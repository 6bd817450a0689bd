use Rattle.std.proofs.Common.{take}
use Rattle.std.specs.Fmt.{HasWritten, IsPlainFormatter}
use Rattle.swim_record.specs.Text.{arguments_text}
use Rattle.swim_record.proofs.text.write_words.Given as goal

-- the arguments so far were written
abbrev pub invariant-loop-argument : goal.invariant-loop-argument
invariant-loop-argument g l =
    IsPlainFormatter l.initial.f → HasWritten g.W.Write.write_str_gives l.initial.f (arguments_text (take l.argument-index l.arguments)) l.f
