use denote.Param.{param}
use Rattle.swim_node.specs.contracts.node.Node.{the_view}
use Rattle.swim_node.proofs.Living.{may_end}
use Rattle.swim_node.proofs.node.Node.into_disk.Goals as goal

pub returns-clause-lived : goal.returns-clause-lived
returns-clause-lived g c keeps = rw (← c.self.view_is) (may_end g.D.Disk.state (the_view (param 0 g.row.D) g.D.Disk c.self.inside) c.self.inside.member c.self.inside.store.ceiling c.self.inside.most c.self.invariant.0 (c.self.invariant.1 keeps))
