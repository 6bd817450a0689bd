use Rattle.std.proofs.Common.{◌≡◌, take}
use Rattle.std.specs.Prelude.{All, ◌==◌, false}
use Rattle.swim_script.proofs.script.split_line.Given as goal

-- no line ends so far
abbrev pub invariant-loop-index : goal.invariant-loop-index
invariant-loop-index l = All (λ byte. (byte == 10) ≡ false) (take l.index l.text)
