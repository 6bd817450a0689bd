use Rattle.std.proofs.Common.{◌≡◌, Some}
use Rattle.toml.specs.View.{table_view}
use Rattle.swim_plan.specs.Plan.{taken_at}
use Rattle.swim_plan.proofs.Planning.{IsFilled}
use Rattle.swim_plan.proofs.plan.read_keys.Given as goal

abbrev pub invariant-loop-place : goal.invariant-loop-place
invariant-loop-place l =
    IsFilled (λ key n. taken_at key (table_view l.table) ≡ Some n) l.place l.numbers
