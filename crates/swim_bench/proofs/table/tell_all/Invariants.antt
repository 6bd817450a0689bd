use Rattle.std.proofs.Common.{◌≡◌}
use Rattle.swim_bench.proofs.table.tell_all.Given as goal

abbrev pub invariant-loop-update : goal.invariant-loop-update
invariant-loop-update l = l.table.me ≡ l.initial.table.me
