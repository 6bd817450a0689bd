use Rattle.std.proofs.Common.{[], subst, sym}
use Rattle.swim_group.specs.Group.{Group}
use Rattle.swim_group.specs.Checking.{KeepTheLaw}
use Rattle.swim_group.proofs.Telling.{told-kept}
use Rattle.swim_group.proofs.Passing.{within-kept, overrides-all, overrides-others}
use Rattle.swim_group.specs.Nodes.{Opens, after_node_move, after_node_moves, members_of, moves_of}
use Rattle.swim_group.proofs.Keeping.{law-run}
use Rattle.swim_group.proofs.Simulating.{living-begins, living-moves, members-begin, nodes-moved, nodes-run, opened-overrides}
use Rattle.swim_group.proofs.laws.nodes_keep_the_laws.Goals as goal

pub returns-clause-told : goal.returns-clause-told
returns-clause-told g c group moves begins run =
    told-kept (members_of (after_node_moves group moves)) (living-moves g.D.Disk.state moves group (living-begins g.D.Disk.state group begins) run).kept

pub returns-clause-within : goal.returns-clause-within
returns-clause-within g c group moves begins run =
    within-kept (members_of (after_node_moves group moves)) (living-moves g.D.Disk.state moves group (living-begins g.D.Disk.state group begins) run).kept

pub returns-clause-checked : goal.returns-clause-checked
returns-clause-checked g c group moves begins run =
    subst (λ (k : Group). KeepTheLaw [] k.sent) (sym (nodes-moved g.D.Disk.state moves group run))
    (law-run (members_of group) (moves_of moves) (members-begin g.D.Disk.state group begins) (nodes-run g.D.Disk.state moves group (living-begins g.D.Disk.state group begins) run))

pub returns-clause-by_rules_2 : goal.returns-clause-by_rules_2
returns-clause-by_rules_2 g c group moves which settings limit first opened left begins run may =
    overrides-all settings.me first (members_of (after_node_move (after_node_moves group moves) (Opens which settings limit first opened left)))
    (opened-overrides g.D.Disk.state (after_node_moves group moves) (living-moves g.D.Disk.state moves group (living-begins g.D.Disk.state group begins) run) which settings limit first opened left may)

pub returns-clause-by_rules_1 : goal.returns-clause-by_rules_1
returns-clause-by_rules_1 g c group moves which settings limit first opened left begins run may =
    overrides-others settings.me first (members_of (after_node_move (after_node_moves group moves) (Opens which settings limit first opened left)))
    (opened-overrides g.D.Disk.state (after_node_moves group moves) (living-moves g.D.Disk.state moves group (living-begins g.D.Disk.state group begins) run) which settings limit first opened left may)
