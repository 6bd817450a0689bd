use Rattle.std.proofs.Common.{ap, Some}
use Rattle.swim_node.specs.Node.{owner_of}
use Rattle.swim_group.specs.RealNodes.{node_disk_state}
use Rattle.swim_group.proofs.Refusing.{held-new, unopened-first}
use Rattle.swim_group.proofs.Seating.{began}
use Rattle.swim_group.proofs.seat.first_there.Goals as goal

pub returns-in-Ok-clause-ok : goal.returns-in-Ok-clause-ok
returns-in-Ok-clause-ok c =
    let lived = c.in-Ok.ensures.lived (tt {0}) in
    began c.args.seat.now.settings c.args.limit c.args.disk c.in-Ok.node c.in-Ok.ensures.fresh.0 c.in-Ok.ensures.fresh.1 lived.0 lived.1
    (record c.args.seat.now { node = Some c.in-Ok.node }) (ap (λ p. record c.args.seat.now { node = Some c.in-Ok.node; planned = p }) c.requires.unplanned)

pub returns-clause-refused : goal.returns-clause-refused
returns-clause-refused c =
    unopened-first c.args.limit (node_disk_state c.args.disk).content c.in-Err.fault (c.requires.made (node_disk_state c.args.disk).content (node_disk_state c.args.disk).reads).1
    (c.in-Err.ensures.refused (tt {0}) 0 (held-new (node_disk_state c.args.disk) (owner_of c.args.seat.now.settings) c.requires.made))
