use Rattle.std.proofs.Common.{Ok, Err, refl}
use Rattle.std.specs.Prelude.{Result, OnOk}
use Rattle.swim_rules.specs.Deals.{deal_from}
use Rattle.swim_library.proofs.running.Running.tick.Goals as goal

after_ok : {T E A B : Type 0} (result : Result T E) → (A → B) → OnOk result A → OnOk result B
after_ok (Ok value) gives a = gives a
after_ok (Err fault) gives a = a

pub returns-clause-entered : goal.returns-clause-entered
returns-clause-entered c = after_ok c.enter.result (λ enters. (
  deal_from 0,
  record {
    enters = enters;
    undrawn = λ _. (refl, c.ends_period.ensures.otherwise c.if-ends_period.false);
  },
)) c.enter.ensures.entered
