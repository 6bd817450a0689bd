use Rattle.std.proofs.Common.{arith}
use Rattle.swim_rules.proofs.Dealing.{none-twice}
use Rattle.swim_member.proofs.turn.TurnList.new.Goals as goal

pub invariant_of-result : goal.invariant_of-result
invariant_of-result c = rw c.new.ensures (record { once = none-twice; within = omega arith })
