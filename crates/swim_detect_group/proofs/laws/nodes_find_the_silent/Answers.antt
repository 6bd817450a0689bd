use Rattle.swim_detect_group.proofs.Eras.{eras-find}
use Rattle.swim_detect_group.proofs.Journals.{node-finds}
use Rattle.swim_detect_group.proofs.laws.nodes_find_the_silent.Goals as goal

pub returns-clause-era : goal.returns-clause-era
returns-clause-era c = node-finds

pub returns-clause-eras : goal.returns-clause-eras
returns-clause-eras c x n start last eras = eras-find x n start last eras
