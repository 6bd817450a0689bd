use Rattle.swim_node.proofs.Replaying.{same-legal}
use Rattle.swim_node.proofs.laws.causes_make_the_entries.Goals as goal

pub returns : goal.returns
returns c = same-legal
