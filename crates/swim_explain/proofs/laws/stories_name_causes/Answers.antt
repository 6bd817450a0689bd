use Rattle.swim_node.specs.History.{steps}
use Rattle.swim_explain.proofs.Causes.{names-causes, none-out}
use Rattle.swim_explain.proofs.laws.stories_name_causes.Goals as goal

pub returns-clause-causes : goal.returns-clause-causes
returns-clause-causes c base x entries sound before e after parts = names-causes base (steps before) e x sound

pub returns-clause-each : goal.returns-clause-each
returns-clause-each c base x entries sound before e after r parts now new kind = none-out base (steps before) e x r sound now new kind
