use Rattle.swim_simulate.proofs.Watching.{planned-watched}
use Rattle.swim_simulate.proofs.watched.WatchedNodes.plan_failure.Goals as goal

pub invariant_of-self-2 : goal.invariant_of-self-2
invariant_of-self-2 c = planned-watched c.self.inside.law c.self.inside.nodes c.plan_failure.new.self c.args.who c.args.failure c.in_ok-plan_failure.ensures.ok c.self.invariant
