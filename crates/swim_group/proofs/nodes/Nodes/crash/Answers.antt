use Rattle.std.proofs.Common.{rules, ◌≡◌, ◌<◌, Some, length, slice_get, slice_set}
use Rattle.swim_group.specs.RealNodes.{HasNodeRun}
use Rattle.swim_group.proofs.Holding.{get-at}
use Rattle.swim_group.proofs.Seating.{sound-node-run, seat-sound, seat-owner, left-on, opened-on, opened-at, real}
use Rattle.swim_group.proofs.Refusing.{no-opening}
use Rattle.swim_group.proofs.nodes.Nodes.crash.Goals as goal

pub open_there-requires : goal.open_there-requires
open_there-requires c =
    let there : c.args.node < length c.self.inside.seats.items = search rules in
    let at : slice_get c.self.inside.seats.items c.args.node ≡ Some c.index_mut.result.now = get-at c.self.inside.seats.items c.args.node c.index_mut.result.now there c.index_mut.ensures.value in
    record {
      sound = seat-sound c.self.inside.seats.items c.self.inside.kept.items c.args.node c.index_mut.result.now at c.self.invariant.0;
      owner = λ node is. seat-owner c.self.inside.seats.items c.self.inside.kept.items c.args.node c.index_mut.result.now node at is c.self.invariant.0;
    }

-- a node that is gone
module _ (c : goal.In-Err) where
  gone : HasNodeRun (slice_set c.self.inside.seats.items c.args.node c.open_there.new.seat) c.self.inside.kept.items
  gone =
      let there : c.args.node < length c.self.inside.seats.items = search rules in
      (left-on c.self.inside.seats.items c.self.inside.kept.items c.args.node c.index_mut.result.now c.open_there.new.seat c.in-Err.fault there c.index_mut.ensures.value c.in-Err.ensures.err c.self.invariant.0).next

pub invariant_of-self : goal.invariant_of-self
invariant_of-self c = (gone c, c.self.invariant.1)

pub returns-in-Err-clause-refused : goal.returns-in-Err-clause-refused
returns-in-Err-clause-refused c =
    let there : c.args.node < length c.self.inside.seats.items = search rules in
    rw (← c.self.view_is)
    (no-opening c.self.inside.seats.items c.self.inside.kept.items c.self.inside.room c.self.inside.limit c.args.node c.index_mut.result.now there c.index_mut.ensures.value c.open_there.new.seat c.in-Err.fault c.in-Err.ensures.err c.in-Err.ensures.refused)

pub returns-in-Err-clause-run : goal.returns-in-Err-clause-run
returns-in-Err-clause-run c =
    sound-node-run (real (slice_set c.self.inside.seats.items c.args.node c.open_there.new.seat) c.self.inside.kept.items c.self.inside.room c.self.inside.limit) (gone c)

pub invariant_of-self-2 : goal.invariant_of-self-2
invariant_of-self-2 c =
    let there : c.args.node < length c.self.inside.seats.items = search rules in
    ((opened-on c.self.inside.seats.items c.self.inside.kept.items c.self.inside.limit c.args.node c.index_mut.result.now c.open_there.new.seat (get-at c.self.inside.seats.items c.args.node c.index_mut.result.now there c.index_mut.ensures.value) c.in_default.ensures.ok c.self.invariant.0).next, c.self.invariant.1)

pub returns-clause-ok : goal.returns-clause-ok
returns-clause-ok c =
    let there : c.args.node < length c.self.inside.seats.items = search rules in
    rw (← c.self.view_is)
    (opened-at c.self.inside.seats.items c.self.inside.kept.items c.self.inside.room c.self.inside.limit c.args.node c.index_mut.result.now c.open_there.new.seat there c.index_mut.ensures.value c.in_default.ensures.ok)

pub returns-clause-run : goal.returns-clause-run
returns-clause-run c =
    let there : c.args.node < length c.self.inside.seats.items = search rules in
    sound-node-run (real (slice_set c.self.inside.seats.items c.args.node c.open_there.new.seat) c.self.inside.kept.items c.self.inside.room c.self.inside.limit)
    (opened-on c.self.inside.seats.items c.self.inside.kept.items c.self.inside.limit c.args.node c.index_mut.result.now c.open_there.new.seat (get-at c.self.inside.seats.items c.args.node c.index_mut.result.now there c.index_mut.ensures.value) c.in_default.ensures.ok c.self.invariant.0).next
