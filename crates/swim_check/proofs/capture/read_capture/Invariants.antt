use Rattle.std.proofs.Common.{length}
use Rattle.swim_check.specs.Captures.{Begins}
use Rattle.swim_check.proofs.capture.read_capture.Given as goal

abbrev pub decreases-loop-rest : goal.decreases-loop-rest
decreases-loop-rest l = length l.rest

-- the lines so far
abbrev pub invariant-loop-rest : goal.invariant-loop-rest
invariant-loop-rest l = Begins l.text l.datagrams.items l.rest
