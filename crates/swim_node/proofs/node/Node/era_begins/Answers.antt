use Rattle.std.proofs.Common.{subst}
use Rattle.swim_member.specs.Checks.{AreSound}
use Rattle.swim_node.proofs.Nodes.{next-itself}
use Rattle.swim_node.proofs.node.Node.era_begins.Goals as goal

pub returns-clause-sound : goal.returns-clause-sound
returns-clause-sound g c = rw (← c.self.view_is) (subst AreSound c.self.invariant.0.settings c.state_resumes.ensures.sound)

pub returns-clause-reads : goal.returns-clause-reads
returns-clause-reads g c = rw (← c.self.view_is) (next-itself _ c.self.invariant.0.reads)
