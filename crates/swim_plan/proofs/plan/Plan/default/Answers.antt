use Rattle.std.proofs.Common.{◌≡◌, ℕ, ap}
use Rattle.swim_plan.specs.declared.key.PlanKey.{PlanKey}
use Rattle.swim_plan.specs.Keys.{range_of}
use Rattle.swim_plan.proofs.Planning.{fill-next}
use Rattle.swim_plan.proofs.plan.Plan.default.Goals as goal

pub loop-place-preserved : goal.loop-place-preserved
loop-place-preserved c =
    let P : PlanKey → ℕ → Type 0 = λ key n. n ≡ (range_of key).default in
    fill-next P c.loop-place.place c.loop-place.numbers c.range.result.default c.loop-place-test.true (ap (λ r. r.default) c.range.ensures) c.loop-place.invariant
