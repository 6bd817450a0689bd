use Rattle.swim_group.proofs.Keeping.{law-run}
use Rattle.swim_group.proofs.laws.runs_keep_the_law.Goals as goal

pub returns : goal.returns
returns c group moves begins run = law-run group moves begins run
