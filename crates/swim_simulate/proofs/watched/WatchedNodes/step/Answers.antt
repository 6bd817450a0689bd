use Rattle.std.proofs.Common.{ap, sym, subst}
use Rattle.swim_group.specs.Network.{IsNotInvented}
use Rattle.swim_simulate.specs.Running.{WatchedView}
use Rattle.swim_simulate.proofs.Watching.{heard-looked}
use Rattle.swim_simulate.proofs.watched.WatchedNodes.step.Goals as goal

pub invariant_of-self-in_err-look_at_last : goal.invariant_of-self-in_err-look_at_last
invariant_of-self-in_err-look_at_last c =
    heard-looked c.self.inside.law c.look_at_last.new.law c.self.inside.nodes c.step.new.self c.args.who c.args.event c.in_ok-reply.reply c.kept-before.result.now c.kept.result.now c.kept-before.ensures c.kept.ensures c.in_ok-reply.ensures.ok
    (subst (λ ks. IsNotInvented ks c.args.event) (sym (ap (λ (v : WatchedView). v.nodes.kept) c.self.view_is)) c.requires) c.look_at_last.ensures c.self.invariant

pub invariant_of-self-2 : goal.invariant_of-self-2
invariant_of-self-2 c =
    heard-looked c.self.inside.law c.look_at_last.new.law c.self.inside.nodes c.step.new.self c.args.who c.args.event c.in_ok-reply.reply c.kept-before.result.now c.kept.result.now c.kept-before.ensures c.kept.ensures c.in_ok-reply.ensures.ok
    (subst (λ ks. IsNotInvented ks c.args.event) (sym (ap (λ (v : WatchedView). v.nodes.kept) c.self.view_is)) c.requires) c.look_at_last.ensures c.self.invariant
