use Rattle.swim_group.proofs.Holding.{sound-run}
use Rattle.swim_group.proofs.group.Group.find.Goals as goal

pub returns-then-len-member-clause-run : goal.returns-then-len-member-clause-run
returns-then-len-member-clause-run c = rw (← c.self.view_is) (sound-run _ c.self.invariant.0)

pub returns-clause-run : goal.returns-clause-run
returns-clause-run c = rw (← c.self.view_is) (sound-run _ c.self.invariant.0)
