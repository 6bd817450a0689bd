use Rattle.swim_simulate.proofs.Watching.{ended-watched}
use Rattle.swim_simulate.proofs.watched.WatchedNodes.end_era.Goals as goal

pub invariant_of-self-2 : goal.invariant_of-self-2
invariant_of-self-2 c = ended-watched c.self.inside.law c.self.inside.nodes c.end_era.new.self c.args.who c.in_ok-end_era.ensures.ok c.self.invariant
