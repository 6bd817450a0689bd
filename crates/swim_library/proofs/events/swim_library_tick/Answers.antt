use Rattle.std.proofs.Common.{Some, ap, sym, ◌∙◌}
use Rattle.swim_library.specs.Holding.{held}
use Rattle.swim_library.specs.declared.running.Running.{Running}
use Rattle.swim_library.proofs.Entering.{enters_none, enters_some}
use Rattle.swim_library.proofs.events.swim_library_tick.Goals as goal

pub returns-in-None : goal.returns-in-None
returns-in-None c = enters_none _ _ _ _ c.in-None.ensures.closed (ap held c.in-None.ensures.same) c.code.ensures

pub returns-in-Some : goal.returns-in-Some
returns-in-Some c = enters_some _ _ _ _ c.deref_mut.result.now c.tick-done.new.self c.tick-done.result
    (c.in-Some.ensures.open ∙ ap (λ (r : Running). Some r) (sym c.deref_mut.ensures.value))
    c.put.ensures c.code-in-Some.ensures c.tick-done.ensures.entered c.tick-done.ensures.same c.tick-done.ensures.waits c.tick-done.ensures.refused
