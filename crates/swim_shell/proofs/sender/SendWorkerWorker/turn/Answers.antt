use Rattle.swim_shell.proofs.Losing.{sending_more}
use Rattle.swim_shell.proofs.sender.SendWorkerWorker.turn.Goals as goal

pub returns-in-Ok-clause-on : goal.returns-in-Ok-clause-on
returns-in-Ok-clause-on g c = λ s r n w. sending_more _ _ _ _ _ _ _ _ n _ _ w c.hand_on.ensures c.losses-count.ensures c.settle.ensures c.in-Ok.ensures.ok
