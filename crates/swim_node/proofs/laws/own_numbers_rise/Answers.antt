use Rattle.swim_node.proofs.Lives.{lives-rise}
use Rattle.swim_node.proofs.laws.own_numbers_rise.Goals as goal

pub returns : goal.returns
returns g c owner lives h = lives-rise g.D.Disk.state owner lives h
