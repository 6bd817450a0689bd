use Rattle.swim_simulate.proofs.Watching.{delivered-looked}
use Rattle.swim_simulate.proofs.watched.WatchedNodes.deliver.Goals as goal

pub invariant_of-self-in_err-look_at_last : goal.invariant_of-self-in_err-look_at_last
invariant_of-self-in_err-look_at_last c =
    delivered-looked c.self.inside.law c.look_at_last.new.law c.self.inside.nodes c.deliver.new.self c.args.who c.args.index c.in_ok-reply.reply c.kept-before.result.now c.kept.result.now c.kept-before.ensures c.kept.ensures c.in_ok-reply.ensures.ok c.look_at_last.ensures c.self.invariant

pub invariant_of-self-2 : goal.invariant_of-self-2
invariant_of-self-2 c =
    delivered-looked c.self.inside.law c.look_at_last.new.law c.self.inside.nodes c.deliver.new.self c.args.who c.args.index c.in_ok-reply.reply c.kept-before.result.now c.kept.result.now c.kept-before.ensures c.kept.ensures c.in_ok-reply.ensures.ok c.look_at_last.ensures c.self.invariant
