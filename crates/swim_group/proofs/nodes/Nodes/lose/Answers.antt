use Rattle.std.proofs.Common.{rules, ◌≡◌, ◌<◌, length, ap, subst, sym, slice_get, Some}
use Rattle.swim_group.specs.RealNodes.{HasNodeRun}
use Rattle.swim_group.proofs.Holding.{get-at}
use Rattle.swim_group.proofs.Losing.{left-run}
use Rattle.swim_group.proofs.Seating.{sound-node-run, real}
use Rattle.swim_group.proofs.nodes.Nodes.lose.Goals as goal

pub returns-then-len-datagram-clause-run : goal.returns-then-len-datagram-clause-run
returns-then-len-datagram-clause-run c = rw (← c.self.view_is) (sound-node-run _ c.self.invariant.0)

module _ (c : goal.After-swap_remove) where
  found : slice_get c.self.inside.kept.items c.args.datagram ≡ Some c.swap_remove.result
  found =
      let there : c.args.datagram < length c.self.inside.kept.items = search rules in
      get-at c.self.inside.kept.items c.args.datagram c.swap_remove.result there c.swap_remove.ensures.value

  left : HasNodeRun c.self.inside.seats.items c.swap_remove.new.self.items
  left =
      subst (HasNodeRun c.self.inside.seats.items) (sym c.swap_remove.ensures.items)
      (left-run c.self.inside.seats.items c.self.inside.kept.items c.args.datagram c.swap_remove.result found c.self.invariant.0).next

pub returns-clause-ok : goal.returns-clause-ok
returns-clause-ok c = rw (← c.self.view_is) record {
  out = c.swap_remove.result;
  kept = found c;
  is = ap (λ ks. real c.self.inside.seats.items ks c.self.inside.room c.self.inside.limit) c.swap_remove.ensures.items;
}

pub returns-clause-run : goal.returns-clause-run
returns-clause-run c =
    sound-node-run (real c.self.inside.seats.items c.swap_remove.new.self.items c.self.inside.room c.self.inside.limit) (left c)
