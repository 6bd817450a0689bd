use Rattle.std.proofs.Common.{◌≤◌}
use Rattle.swim_bench.proofs.node.swim_bench_node_ticks.Given as goal

abbrev pub invariant-loop : goal.invariant-loop
invariant-loop l = l.entered ≤ l.counter
