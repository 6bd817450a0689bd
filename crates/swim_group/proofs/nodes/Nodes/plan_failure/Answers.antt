use Rattle.std.proofs.Common.{rules, ◌≡◌, ◌<◌, ◌∙◌, List, length, ap, sym, subst, slice_set}
use Rattle.swim_group.specs.declared.seat.Seat.{Seat as Seats}
use Rattle.swim_group.specs.RealNodes.{HasNodeRun}
use Rattle.swim_group.proofs.Holding.{get-at}
use Rattle.swim_group.proofs.Seating.{sound-node-run, set-back, planned-on, planned-at, real}
use Rattle.swim_group.proofs.Refusing.{absent}
use Rattle.swim_group.proofs.nodes.Nodes.plan_failure.Goals as goal

pub returns-in-Err-clause-run : goal.returns-in-Err-clause-run
returns-in-Err-clause-run c =
    let there : c.args.node < length c.self.inside.seats.items = search rules in
    let same : slice_set c.self.inside.seats.items c.args.node c.plan_there.new.seat ≡ c.self.inside.seats.items =
    ap (slice_set c.self.inside.seats.items c.args.node) c.in-Err.ensures.err ∙ set-back c.self.inside.seats.items c.args.node c.index_mut.result.now there c.index_mut.ensures.value in
    sound-node-run (real (slice_set c.self.inside.seats.items c.args.node c.plan_there.new.seat) c.self.inside.kept.items c.self.inside.room c.self.inside.limit)
    (subst (λ (ss : List Seats). HasNodeRun ss c.self.inside.kept.items) (sym same) c.self.invariant.0)

pub invariant_of-self-2 : goal.invariant_of-self-2
invariant_of-self-2 c =
    let there : c.args.node < length c.self.inside.seats.items = search rules in
    ((planned-on c.self.inside.seats.items c.self.inside.kept.items c.args.node c.index_mut.result.now c.plan_there.new.seat c.args.failure (get-at c.self.inside.seats.items c.args.node c.index_mut.result.now there c.index_mut.ensures.value) c.in_default.ensures.ok c.self.invariant.0).next, c.self.invariant.1)

pub returns-clause-ok : goal.returns-clause-ok
returns-clause-ok c =
    let there : c.args.node < length c.self.inside.seats.items = search rules in
    rw (← c.self.view_is)
    (planned-at c.self.inside.seats.items c.self.inside.kept.items c.self.inside.room c.self.inside.limit c.args.node c.index_mut.result.now c.plan_there.new.seat c.args.failure there c.index_mut.ensures.value c.in_default.ensures.ok)

pub returns-clause-run : goal.returns-clause-run
returns-clause-run c =
    let there : c.args.node < length c.self.inside.seats.items = search rules in
    sound-node-run (real (slice_set c.self.inside.seats.items c.args.node c.plan_there.new.seat) c.self.inside.kept.items c.self.inside.room c.self.inside.limit)
    (planned-on c.self.inside.seats.items c.self.inside.kept.items c.args.node c.index_mut.result.now c.plan_there.new.seat c.args.failure (get-at c.self.inside.seats.items c.args.node c.index_mut.result.now there c.index_mut.ensures.value) c.in_default.ensures.ok c.self.invariant.0).next

pub returns-in-Err-clause-refused : goal.returns-in-Err-clause-refused
returns-in-Err-clause-refused c =
    let there : c.args.node < length c.self.inside.seats.items = search rules in
    rw (← c.self.view_is)
    (absent c.self.inside.seats.items c.self.inside.kept.items c.self.inside.room c.self.inside.limit c.args.node c.index_mut.result.now there c.index_mut.ensures.value c.in-Err.fault c.in-Err.ensures.gone.0 c.in-Err.ensures.gone.1)
