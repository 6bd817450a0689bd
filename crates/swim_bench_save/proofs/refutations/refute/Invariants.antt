use Rattle.std.proofs.Common.{◌+◌, ◌≤◌}
use Rattle.swim_node.specs.History.{status_of}
use Rattle.swim_bench_save.proofs.refutations.refute.Given as goal

abbrev pub invariant-loop-turn : goal.invariant-loop-turn
invariant-loop-turn g l =
    (status_of l.initial.node.base l.initial.node.entries).number + l.turn
    ≤ (status_of l.node.base l.node.entries).number
