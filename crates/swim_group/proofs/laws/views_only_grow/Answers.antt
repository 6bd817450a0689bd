use Rattle.swim_group.proofs.Viewing.{rises-move, rises-moves}
use Rattle.swim_group.proofs.laws.views_only_grow.Goals as goal

pub returns-clause-next : goal.returns-clause-next
returns-clause-next c group move which x stays = rises-move group move which x stays

pub returns-clause-run : goal.returns-clause-run
returns-clause-run c group moves which x holds = rises-moves group moves which x holds
