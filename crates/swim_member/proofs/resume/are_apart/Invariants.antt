use Rattle.std.proofs.Common.{◌≡◌, drop}
use Rattle.swim_member.specs.Resuming.{are_apart}
use Rattle.swim_member.proofs.resume.are_apart.Given as goal

-- none so far is about a member that stands again behind it
abbrev pub invariant-loop-index : goal.invariant-loop-index
invariant-loop-index l = are_apart l.queue ≡ are_apart (drop l.index l.queue)
