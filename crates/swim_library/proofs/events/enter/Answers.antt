use Rattle.std.proofs.Common.{Some, ap, sym, ◌∙◌}
use Rattle.swim_library.specs.Holding.{held}
use Rattle.swim_library.specs.declared.running.Running.{Running}
use Rattle.swim_library.proofs.Entering.{enters_none, enters_some}
use Rattle.swim_library.proofs.events.enter.Goals as goal

pub returns-in-None : goal.returns-in-None
returns-in-None c = enters_none _ _ _ _ c.in-None.ensures.closed (ap held c.in-None.ensures.same) c.code.ensures

pub returns-in-Some : goal.returns-in-Some
returns-in-Some c = enters_some _ _ _ _ c.deref_mut.result.now c.enter-done.new.self c.enter-done.result
    (c.in-Some.ensures.open ∙ ap (λ (r : Running). Some r) (sym c.deref_mut.ensures.value))
    c.put.ensures c.code-in-Some.ensures c.enter-done.ensures.entered c.enter-done.ensures.same c.enter-done.ensures.waits c.enter-done.ensures.refused
