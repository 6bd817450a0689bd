-- What a step of the member does.
use Rattle.std.specs.Prelude.{◌≡◌, ◌≤◌, ℕ, List, [], ◌∷◌, ◌++◌}
use Rattle.swim_member.specs.State.{State}
use Rattle.swim_member.specs.declared.event.Event.{Event}
use Rattle.swim_member.specs.declared.answer.Answer.{Answer}
use Rattle.swim_member.specs.Events.{Step, state_of, answer, number_after}
use Rattle.swim_member.specs.Judge.{wanted}
use Rattle.swim_member.specs.Fit.{AreAll, own_numbers_in}

-- a step with this ceiling, from one state to the next, with what the member answers
pub record Steps (old new : State) (event : Event) (granted : ℕ) (said : Answer) : Type 0 where
  pub state : (base : State) (before : List Step) → state_of base before ≡ old
      → state_of base (before ++ record { event = event; granted = granted } ∷ []) ≡ new
  pub answered : (base : State) (before : List Step) → state_of base before ≡ old
      → answer base before event granted ≡ said
  pub number : new.number ≡ number_after (wanted old event) granted old.number
  pub grows : old.number ≤ new.number
  pub own : AreAll new.number (own_numbers_in new.settings.me said.outs.items)
  pub settings : new.settings ≡ old.settings
