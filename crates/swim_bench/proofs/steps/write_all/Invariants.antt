use Rattle.std.proofs.Common.{◌≡◌, ◌<◌}
use Rattle.swim_bench.specs.Texts.{BeginsWithText}
use Rattle.swim_bench.proofs.steps.write_all.Given as goal

abbrev pub invariant-loop-sent : goal.invariant-loop-sent
invariant-loop-sent l = (0 < l.sent-index → BeginsWithText l.out) × (l.sent-index ≡ 0 → l.out ≡ l.initial.out)
