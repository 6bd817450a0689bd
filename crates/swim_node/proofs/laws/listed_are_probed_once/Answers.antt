use Rattle.swim_node.proofs.Probing.{turns-probe, goes-in_turns}
use Rattle.swim_node.proofs.laws.listed_are_probed_once.Goals as goal

pub returns-clause-turns : goal.returns-clause-turns
returns-clause-turns c base history legal = turns-probe base history legal

pub returns-clause-era : goal.returns-clause-era
returns-clause-era c base history legal start = goes-in_turns base history legal start
