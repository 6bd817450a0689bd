use Rattle.std.proofs.Common.{◌≡◌, refl}
use Rattle.swim_node.proofs.Living.{ends_era}
use Rattle.swim_node.proofs.Nodes.{node-rebased}
use Rattle.swim_node.proofs.Probing.{goes-in_turns}
use Rattle.swim_node.specs.Node.{base_of, next_base}
use denote.Param.{param}
use Rattle.swim_node.specs.contracts.node.Node.{the_view}
use Rattle.swim_node.proofs.node.Node.rebase.Goals as goal

pub invariant_of-self : goal.invariant_of-self
invariant_of-self g c = (
  rw (c.base_at.ensures.base, c.ceiling.ensures.value, c.clear.ensures)
      (node-rebased (base_of c.self.inside.base) c.self.inside.journal.entries c.self.inside.first c.self.inside.member c.self.inside.store.ceiling c.self.inside.most c.self.invariant.0 c.base_at.ensures.reads c.base_at.ensures.resumes),
  c.self.invariant.1,
)

pub returns-clause-living : goal.returns-clause-living
returns-clause-living g c =
    let n = c.self.invariant.0 in
    let base : base_of c.base_at.result ≡ next_base (base_of c.self.inside.base) c.self.inside.journal.entries =
    rw (c.base_at.ensures.base, c.ceiling.ensures.value, n.member, n.granted, n.most) refl in
    let new = record c.self.inside { base = c.base_at.result; journal = c.clear.new.self } in
    rw (← c.self.view_is) (ends_era g.D.Disk.state (the_view (param 0 g.row.D) g.D.Disk c.self.inside) (the_view (param 0 g.row.D) g.D.Disk new) base refl refl n.legal n.begun)

pub returns-clause-turns : goal.returns-clause-turns
returns-clause-turns g c = rw (← c.self.view_is) (goes-in_turns _ _ c.self.invariant.0.legal c.self.invariant.0.start)
