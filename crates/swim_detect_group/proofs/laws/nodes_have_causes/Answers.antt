use Rattle.swim_node.specs.History.{steps}
use Rattle.swim_detect.proofs.Caused.{rows-caused}
use Rattle.swim_detect_group.proofs.Journals.{entries-accounted}
use Rattle.swim_detect_group.proofs.laws.nodes_have_causes.Goals as goal

pub returns-clause-rows : goal.returns-clause-rows
returns-clause-rows c base history sound = rows-caused base.state (steps history) sound

pub returns-clause-sends : goal.returns-clause-sends
returns-clause-sends c base history legal sound = entries-accounted base history legal sound
