use Rattle.std.proofs.Common.{Some, ap, sym, ◌∙◌}
use Rattle.swim_library.specs.declared.running.Running.{Running}
use Rattle.swim_library.proofs.opening.swim_library_close.Goals as goal

pub returns-in-Some-clause-ends : goal.returns-in-Some-clause-ends
returns-in-Some-clause-ends c = λ ok. (
  c.deref.result.now,
  c.in-Some.ensures.open ∙ ap (λ (r : Running). Some r) (sym c.deref.ensures),
  c.life_may_end.ensures tt,
)
