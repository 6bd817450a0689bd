use Rattle.std.proofs.Common.{◌+◌, ◌≤◌}
use Rattle.swim_bench_save.proofs.saves.save.Given as goal

abbrev pub invariant-loop : goal.invariant-loop
invariant-loop g l = l.initial.store.ceiling + l.counter ≤ l.store.ceiling
