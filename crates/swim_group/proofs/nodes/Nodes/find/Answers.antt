use Rattle.swim_group.proofs.Seating.{sound-node-run}
use Rattle.swim_group.proofs.nodes.Nodes.find.Goals as goal

pub returns-then-len-node-clause-run : goal.returns-then-len-node-clause-run
returns-then-len-node-clause-run c = rw (← c.self.view_is) (sound-node-run _ c.self.invariant.0)

pub returns-clause-run : goal.returns-clause-run
returns-clause-run c = rw (← c.self.view_is) (sound-node-run _ c.self.invariant.0)
