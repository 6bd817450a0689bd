use Rattle.std.proofs.Common.{rules, ◌≡◌, ℕ, ◌<◌, Some, sym, subst, ◌∙◌}
use Rattle.std.specs.Prelude.{IsSome}
use Rattle.toml.specs.View.{table_view}
use Rattle.swim_plan.specs.declared.key.PlanKey.{PlanKey}
use Rattle.swim_plan.specs.Keys.{rank_of}
use Rattle.swim_plan.specs.Plan.{number_at, taken_at}
use Rattle.swim_plan.proofs.Planning.{fill-next, key_in, rank_of-key_in, taken-within}
use Rattle.swim_plan.proofs.plan.read_keys.Goals as goal

pub returns-in-None-clause-refused : goal.returns-in-None-clause-refused
returns-in-None-clause-refused c = record {
  earlier = λ before l.
      let there : c.loop-place.place < 34 = c.loop-place-test.true in
      let place : rank_of (key_in c.loop-place.place) ≡ c.loop-place.place = rank_of-key_in c.loop-place.place there in
      let below : rank_of before < c.loop-place.place = subst (λ n. rank_of before < n) place l in
      subst IsSome (sym (c.loop-place.invariant.filled before below)) (search rules);
  refused = sym c.taken.ensures ∙ c.in-None.is;
}

pub loop-place-preserved : goal.loop-place-preserved
loop-place-preserved c =
    let P : PlanKey → ℕ → Type 0 = λ key n. taken_at key (table_view c.args.table.now) ≡ Some n in
    fill-next P c.loop-place.place c.loop-place.numbers c.in-Some.number c.loop-place-test.true (sym c.taken.ensures ∙ c.in-Some.is) c.loop-place.invariant

pub invariant_of-result : goal.invariant_of-result
invariant_of-result c = λ key. taken-within key (table_view c.args.table.now) (number_at key c.loop-place.numbers) (c.loop-place.invariant.filled key (search rules))
