use Rattle.std.proofs.Common.{ℕ, subst, take}
use Rattle.swim_library.specs.Holding.{TriesToEnter}
use Rattle.swim_library.specs.Running.{EntersEvent}
use Rattle.swim_member.specs.declared.event.Event.{Event}
use Rattle.swim_member.specs.declared.event.Event.TheVariants.{Datagram}
use Rattle.swim_library.proofs.events.swim_library_receive.Goals as goal

pub returns-in-Some-clause-somebody : goal.returns-in-Some-clause-somebody
returns-in-Some-clause-somebody c = λ named.
    subst (λ (from : ℕ). TriesToEnter c.args.member.now c.enter.new.member c.enter.result (λ before after. EntersEvent before after (Datagram from (record { items = take 513 c.args.bytes.now }))))
    c.in-Some.ensures.1
    (subst (λ (event : Event). TriesToEnter c.args.member.now c.enter.new.member c.enter.result (λ before after. EntersEvent before after event))
    (c.put_bytes.ensures c.in-Some.from (λ i. Datagram c.in-Some.from (record { items = c.new.ensures i }))) c.enter.ensures)
