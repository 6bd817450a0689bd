use Rattle.std.proofs.Common.{ℕ, subst}
use Rattle.swim_library.specs.Holding.{TriesToEnter}
use Rattle.swim_library.specs.Running.{EntersEvent}
use Rattle.swim_member.specs.declared.event.Event.TheVariants.{Join}
use Rattle.swim_library.proofs.events.swim_library_join.Goals as goal

pub returns-in-Some-clause-peer : goal.returns-in-Some-clause-peer
returns-in-Some-clause-peer c = λ named.
    subst (λ (peer : ℕ). TriesToEnter c.args.member.now c.enter.new.member c.enter.result (λ before after. EntersEvent before after (Join peer)))
    c.in-Some.ensures.1 c.enter.ensures
