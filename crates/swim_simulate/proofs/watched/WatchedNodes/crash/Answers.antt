use Rattle.swim_simulate.proofs.Watching.{crashed-watched}
use Rattle.swim_simulate.proofs.watched.WatchedNodes.crash.Goals as goal

pub invariant_of-self : goal.invariant_of-self
invariant_of-self c = crashed-watched c.self.inside.law c.self.inside.nodes c.crash.new.self c.args.who c.args.choice c.crash.result c.crash.ensures.ok c.crash.ensures.refused c.self.invariant
