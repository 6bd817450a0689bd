use Rattle.swim_shell.proofs.Running.{runs_stopped, runs_ended}
use Rattle.swim_shell.proofs.worker.run.Goals as goal

pub returns-in-Stop : goal.returns-in-Stop
returns-in-Stop g c = runs_stopped _ _ _ _ _ _ _ _ _ _ c.loop.invariant c.in-Stop.ensures

pub returns-in-Some-turn : goal.returns-in-Some-turn
returns-in-Some-turn g c = runs_ended _ _ _ _ _ _ _ _ _ _ _ _ c.in-Some-turn.end c.loop.invariant c.in-Go.ensures c.in-Some-turn.ensures.end
