use Rattle.std.proofs.Common.{◌≡◌, drop}
use Rattle.swim_member.specs.Resuming.{are_distinct}
use Rattle.swim_member.proofs.resume.are_distinct.Given as goal

-- none so far stands again behind it
abbrev pub invariant-loop-index : goal.invariant-loop-index
invariant-loop-index l = are_distinct l.names ≡ are_distinct (drop l.index l.names)
