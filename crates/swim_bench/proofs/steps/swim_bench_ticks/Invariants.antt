use Rattle.std.proofs.Common.{◌<◌, ◌≤◌, ◌*◌}
use Rattle.swim_bench.specs.Texts.{BeginsWithText}
use Rattle.swim_bench.proofs.steps.swim_bench_ticks.Given as goal

abbrev pub invariant-loop : goal.invariant-loop
invariant-loop l = (l.sent ≤ 10 * l.counter) × (0 < l.sent → BeginsWithText l.out)
