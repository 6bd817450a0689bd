-- Worked rows of the definitions: what calls say of 10.0.0.2:7000, of which 10.0.0.1:7000 tells.
use Rattle.std.proofs.Common.{◌≡◌, ℕ, [], ◌∷◌, refl, Some, None, true, false}
use Rattle.swim_wire.specs.declared.rules.Rules.TheVariants.{One, Two}
use Rattle.swim_wire.specs.declared.update.Update.{Update}
use Rattle.swim_wire.specs.declared.update.UpdateKind.{UpdateKind}
use Rattle.swim_wire.specs.declared.update.UpdateKind.TheVariants.{Alive, Suspect, Confirm}
use Rattle.swim_rules.specs.declared.table.Heard.TheVariants.{Accepted, Kept, Unknown, Full}
use Rattle.swim_rules.specs.declared.table.Row.{Row}
use Rattle.swim_member.specs.declared.state.Phase.TheVariants.{Running}
use Rattle.swim_member.specs.declared.state.Probe.{Probe}
use Rattle.swim_member.specs.Checks.{usual_settings}
use Rattle.swim_explain.specs.Facts.{answered, by_tick, told}
use Rattle.swim_explain.specs.declared.fact.Fact.TheVariants as fact
use Rattle.swim_explain.specs.declared.view.View.{View}

abbrev it : ℕ
it = 0x0A0000021B58

abbrev helper : ℕ
helper = 0x0A0000031B58

abbrev said : UpdateKind → ℕ → Update
said kind n = record { kind = kind; who = it; number = n }

abbrev row : UpdateKind → ℕ → ℕ → Row
row kind n since = record { update = said kind n; since = since }

-- of two suspicions of one datagram the second changes nothing, and what is about another is left out
twice : told One it helper false 70 (Some (row Alive 4 10)) (said Suspect 4 ∷ record { kind = Confirm; who = helper; number = 9 } ∷ said Suspect 4 ∷ [])
    ≡ fact.Told helper (said Suspect 4) (Some (row Alive 4 10)) Accepted ∷ fact.Told helper (said Suspect 4) (Some (row Suspect 4 70)) Kept ∷ []
twice = refl

-- by rules 1 a Confirm overrides a greater number, and nothing overrides it
last_word : told One it helper false 70 (Some (row Alive 4 10)) (said Confirm 1 ∷ said Alive 9 ∷ [])
    ≡ fact.Told helper (said Confirm 1) (Some (row Alive 4 10)) Accepted ∷ fact.Told helper (said Alive 9) (Some (row Confirm 1 70)) Kept ∷ []
last_word = refl

-- by rules 2 it needs the number, and a greater one overrides it
comes_back : told Two it helper false 70 (Some (row Alive 4 10)) (said Confirm 1 ∷ said Confirm 4 ∷ said Alive 5 ∷ [])
    ≡ fact.Told helper (said Confirm 1) (Some (row Alive 4 10)) Kept ∷ fact.Told helper (said Confirm 4) (Some (row Alive 4 10)) Accepted ∷ fact.Told helper (said Alive 5) (Some (row Confirm 4 70)) Accepted ∷ []
comes_back = refl

-- a member without a row
unknown : told One it helper true 70 None (said Confirm 1 ∷ said Alive 1 ∷ [])
    ≡ fact.Told helper (said Confirm 1) None Unknown ∷ fact.Told helper (said Alive 1) None Full ∷ []
unknown = refl

abbrev probe : Probe
probe = record { target = it; seq = 9; answered = false }

-- a helper's ack
vouched : answered it helper (Some probe) (Some (record { target = it; seq = 9; answered = true })) ≡ fact.Answered helper 9 ∷ []
vouched = refl

abbrev view : ℕ → Row → View
view time r = record { time = time; phase = Running; number = 1; row = Some r; probe = Some probe }

-- a period of 10 ticks ends with tick 70
blamed_at_70 : by_tick (usual_settings 7 1) it (view 69 (row Alive 4 10)) (view 70 (row Suspect 4 70)) ≡ fact.Unanswered 9 ∷ fact.Suspected 4 9 ∷ []
blamed_at_70 = refl

-- who is suspected already is not suspected anew
again : by_tick (usual_settings 7 1) it (view 69 (row Suspect 4 60)) (view 70 (row Suspect 4 60)) ≡ fact.Unanswered 9 ∷ []
again = refl

confirmed : by_tick (usual_settings 7 1) it (view 110 (row Suspect 4 61)) (view 111 (row Confirm 4 111)) ≡ fact.Confirmed 4 61 ∷ []
confirmed = refl
