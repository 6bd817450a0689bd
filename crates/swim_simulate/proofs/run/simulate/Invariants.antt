use Rattle.std.proofs.Common.{◌≡◌}
use Rattle.swim_plan.specs.declared.key.PlanKey.TheVariants.{Members}
use Rattle.swim_plan.specs.Plan.{number_at}
use Rattle.swim_simulate.specs.Running.{rounds}
use Rattle.swim_simulate.proofs.run.simulate.Given as goal

-- in so many ticks each clock went on
abbrev pub invariant-loop-tick : goal.invariant-loop-tick
invariant-loop-tick l = record {
  tick : l.run.watched.tick ≡ l.tick;
  members : l.members ≡ number_at Members l.plan;
  clocks : l.run.watched.clocks ≡ rounds l.members l.tick;
}
