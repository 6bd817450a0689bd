use Rattle.std.proofs.Common.{◌≡◌}
use Rattle.swim_plan.specs.Keys.{range_of}
use Rattle.swim_plan.proofs.Planning.{IsFilled}
use Rattle.swim_plan.proofs.plan.Plan.default.Given as goal

abbrev pub invariant-loop-place : goal.invariant-loop-place
invariant-loop-place l = IsFilled (λ key n. n ≡ (range_of key).default) l.place l.numbers
