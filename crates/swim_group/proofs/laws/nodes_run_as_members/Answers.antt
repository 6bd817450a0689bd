use Rattle.swim_group.proofs.Living.{life-state, life-low}
use Rattle.swim_group.proofs.Simulating.{living-begins, members-begin, nodes-moved, nodes-run}
use Rattle.swim_group.proofs.laws.nodes_run_as_members.Goals as goal

pub returns-clause-begins : goal.returns-clause-begins
returns-clause-begins g c group begins = members-begin g.D.Disk.state group begins

pub returns-clause-run : goal.returns-clause-run
returns-clause-run g c group moves begins run = nodes-run g.D.Disk.state moves group (living-begins g.D.Disk.state group begins) run

pub returns-clause-after : goal.returns-clause-after
returns-clause-after g c group moves begins run = nodes-moved g.D.Disk.state moves group run

pub returns-clause-states : goal.returns-clause-states
returns-clause-states g c life lived = life-state g.D.Disk.state life lived life.entries

pub returns-clause-low : goal.returns-clause-low
returns-clause-low g c life lived = life-low g.D.Disk.state life lived
