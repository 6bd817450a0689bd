use Rattle.std.proofs.Common.{◌+◌, ◌≤◌, length}
use Rattle.swim_script.proofs.Scripts.{AreRead, left}
use Rattle.swim_script.proofs.script.read_script.Given as goal

-- the lines so far were read, and each of them took a byte at least
abbrev pub invariant-loop-rest : goal.invariant-loop-rest
invariant-loop-rest l = record {
  read : AreRead l.script l.rest l.commands.items l.number;
  room : l.number + left l.rest ≤ length l.script + 1;
}

abbrev pub decreases-loop-rest : goal.decreases-loop-rest
decreases-loop-rest l = left l.rest
