use Rattle.swim_node.specs.History.{steps}
use Rattle.swim_node.specs.Node.{base_of}
use Rattle.swim_node.proofs.node.Node.ends_period.Goals as goal

pub returns-clause-otherwise : goal.returns-clause-otherwise
returns-clause-otherwise g c within = rw (← c.self.view_is) (c.ends_period.ensures.otherwise within (base_of c.self.inside.base).state (steps c.self.inside.journal.entries) c.self.invariant.0.member)
