use Rattle.std.proofs.Common.{◌≡◌, Bool, false, not, Option, Some, None, is_some, ap, refl}
use Rattle.swim_node.specs.Node.{NodeView}
use Rattle.swim_group.specs.RealNodes.{NodeDisk}
use Rattle.swim_group.proofs.seat.plan_there.Goals as goal

-- a node that is there
there : (o : Option (NodeView NodeDisk)) (none : Bool) → is_some o ≡ not none → none ≡ false → (node : NodeView NodeDisk) × (o ≡ Some node)
there None none is lives = absurd (cc)
there (Some node) none is lives = (node, refl)

pub returns-clause-ok : goal.returns-clause-ok
returns-clause-ok c =
    let sits = there c.args.seat.now.node c.is_none.result c.is_none.ensures c.if-is_none.false in
    record { node = sits.0; sits = sits.1; is = ap (λ p. record c.args.seat.now { planned = p }) c.set.ensures }
