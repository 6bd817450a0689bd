use Rattle.std.proofs.Common.{rules, ◌≡◌, [], subst, sym}
use Rattle.swim_group.specs.RealNodes.{HasNodeRun}
use Rattle.swim_group.proofs.Seating.{nodes-new, sound-node-run, real}
use Rattle.swim_group.proofs.nodes.Nodes.new.Goals as goal

pub invariant_of-result : goal.invariant_of-result
invariant_of-result c =
    let none : c.new.result.items ≡ [] = search rules in
    (subst (HasNodeRun c.in_ok-seats.seats.items) (sym none) (nodes-new c.args.limit c.args.settings.now c.in_ok-seats.seats.items c.in_default.ensures.ok c.in_ok-seats.ensures.ok), search rules)

pub returns-clause-run : goal.returns-clause-run
returns-clause-run c =
    let none : c.new.result.items ≡ [] = search rules in
    sound-node-run (real c.in_ok-seats.seats.items c.new.result.items c.args.room c.args.limit)
    (subst (HasNodeRun c.in_ok-seats.seats.items) (sym none) (nodes-new c.args.limit c.args.settings.now c.in_ok-seats.seats.items c.in_default.ensures.ok c.in_ok-seats.ensures.ok))
