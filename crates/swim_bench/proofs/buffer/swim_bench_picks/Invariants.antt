use Rattle.std.proofs.Common.{◌≤◌, ◌*◌}
use Rattle.swim_bench.proofs.buffer.swim_bench_picks.Given as goal

-- at most 30 in each turn
abbrev pub invariant-loop : goal.invariant-loop
invariant-loop l = l.picked ≤ l.counter * 30
