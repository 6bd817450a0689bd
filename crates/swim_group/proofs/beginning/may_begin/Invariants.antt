use Rattle.std.proofs.Common.{All, take}
use Rattle.swim_member.specs.Checks.{AreSound}
use Rattle.swim_group.proofs.beginning.may_begin.Given as goal

-- the settings so far are sound
abbrev pub invariant-loop-one : goal.invariant-loop-one
invariant-loop-one l = All AreSound (take l.one-index l.settings)
