use Rattle.std.proofs.lemmas.Result.{IfErr-weaker}
use Rattle.swim_group.proofs.Refusing.{no-step}
use Rattle.swim_group.proofs.nodes.Nodes.step.Goals as goal

pub returns-clause-refused : goal.returns-clause-refused
returns-clause-refused c = IfErr-weaker c.bring.result _ _ (λ fault h. no-step c.args.self.now c.args.node c.args.event fault h) c.bring.ensures.refused
