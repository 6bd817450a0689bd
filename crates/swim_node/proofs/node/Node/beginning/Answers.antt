use Rattle.std.proofs.Common.{subst}
use Rattle.swim_member.specs.Checks.{AreSound}
use Rattle.swim_node.proofs.Nodes.{begins-now}
use Rattle.swim_node.proofs.node.Node.beginning.Goals as goal

pub returns-clause-sound : goal.returns-clause-sound
returns-clause-sound g c = rw (← c.self.view_is) (subst AreSound c.self.invariant.0.settings c.state.ensures.sound)

pub returns-clause-begins : goal.returns-clause-begins
returns-clause-begins g c = rw (← c.self.view_is) (begins-now _ _ c.self.inside.first c.self.inside.member c.self.inside.store.ceiling c.self.inside.most c.self.invariant.0 c.state.ensures.resumes)
