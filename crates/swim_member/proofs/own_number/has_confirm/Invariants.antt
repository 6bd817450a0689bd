use Rattle.std.proofs.Common.{◌≡◌, drop}
use Rattle.swim_member.specs.OwnNumber.{has_confirm}
use Rattle.swim_member.proofs.own_number.has_confirm.Given as goal

-- none so far
abbrev pub invariant-loop-update : goal.invariant-loop-update
invariant-loop-update l = has_confirm l.me (drop l.update-index l.updates) ≡ has_confirm l.me l.updates
