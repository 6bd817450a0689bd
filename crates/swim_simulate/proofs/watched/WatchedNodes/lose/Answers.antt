use Rattle.swim_simulate.proofs.Watching.{lost-watched}
use Rattle.swim_simulate.proofs.watched.WatchedNodes.lose.Goals as goal

pub invariant_of-self-2 : goal.invariant_of-self-2
invariant_of-self-2 c = lost-watched c.self.inside.law c.self.inside.nodes c.lose.new.self c.args.index c.in_ok-lose.ensures.ok c.self.invariant
