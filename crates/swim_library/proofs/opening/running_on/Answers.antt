use Rattle.std.proofs.Common.{ℕ, List, Result, ap, refl, subst}
use Rattle.std.proofs.lemmas.Bool.{false≢true}
use Rattle.std.specs.Prelude.{IsOk}
use Rattle.swim_member.specs.declared.event.Event.TheVariants.{Tick}
use Rattle.swim_member.specs.declared.settings.Settings.{Settings}
use Rattle.swim_library.specs.declared.refusal.Refusal.{Refusal}
use Rattle.swim_library.proofs.opening.running_on.Goals as goal

-- settings that are sound have an address
pub returns-clause-address : goal.returns-clause-address
returns-clause-address c = λ port nobody. absurd (false≢true (subst (λ (r : Result Settings Refusal). IsOk r) (c.in_ok-settings.ensures.address.1 (port, nobody)) refl))

pub invariant_of-running-clause-undealt_is : goal.invariant_of-running-clause-undealt_is
invariant_of-running-clause-undealt_is c = ap (λ (deal : List ℕ). Tick deal) c.from_first.ensures
