use Rattle.std.proofs.Common.{◌≡◌, drop}
use Rattle.swim_member.specs.Resuming.{are_falling}
use Rattle.swim_member.proofs.resume.are_falling.Given as goal

-- those so far fall to the last of them
abbrev pub invariant-loop-waiting : goal.invariant-loop-waiting
invariant-loop-waiting l = are_falling l.most l.queue ≡ are_falling l.last (drop l.waiting-index l.queue)
