-- A member that fell silent is found over the eras of a life: what is left of its time goes on from era to era.
use Rattle.std.proofs.Common.{◌≡◌, ◌∙◌, inl, inr, ℕ, ◌≤◌, true, ap, sym, subst, List, [], ◌∷◌, length, arith}
use Rattle.std.specs.List.{AllByRecursion}
use Rattle.swim_rules.specs.Rows.{row_of}
use Rattle.swim_member.specs.Checks.{AreSound}
use Rattle.swim_member.specs.Events.{state_of}
use Rattle.swim_member.specs.Member.{is_eligible_name}
use Rattle.swim_member.specs.State.{State}
use Rattle.swim_node.specs.History.{Base, steps}
use Rattle.swim_node.specs.Lives.{Era, AreJoined}
use Rattle.swim_node.specs.Node.{next_base}
use Rattle.swim_detect.specs.Finding.{ticks_left, deadline}
use Rattle.swim_detect.specs.Silence.{HasAtLeast}
use Rattle.swim_detect.proofs.Found.{FoundFrom, by_row, never, some-left}
use Rattle.swim_detect.proofs.Silent.{GoesOn, found-or-on}
use Rattle.swim_detect.proofs.Staying.{lists-short}
use Rattle.swim_detect_group.specs.Eras.{IsSilentEra, ConfirmsIn, ConfirmInOne, ErasFindSilent, time_after}
use Rattle.swim_detect_group.proofs.Journals.{HaveDeals, deals-in}

-- what an era that is found in says, by the steps of its entries
confirms : (x until : ℕ) (era : Era) → is_eligible_name (state_of era.base.state []) x ≡ true → FoundFrom x until era.base.state [] (steps era.entries) → ConfirmsIn x until era
confirms x until era on f = record { done = f.done; rest = f.rest; parts = f.parts; found = f.found; confirmed = f.confirmed on; soon = f.soon }

eras-from : (x n until : ℕ) (start last : Base) (eras : List Era) → AreJoined start eras last → AreSound start.state.settings → GoesOn 256 x n until start.state → AllByRecursion (IsSilentEra x n) eras → until ≤ time_after start.state.time eras → ConfirmInOne x until eras
eras-from x n until start last [] joined sound on silent late = absurd (never start.state.time (ticks_left 256 x start.state) until on.some on.low late)
eras-from x n until start last (era ∷ eras) joined sound on silent late =
    let same : era.base.state ≡ start.state = ap (λ (b : Base). b.state) joined.0.same in
    let read : start.state ≡ state_of era.base.state [] = sym same ∙ sym silent.0.reads in
    let here : GoesOn 256 x n until (state_of era.base.state []) = subst (GoesOn 256 x n until) read on in
    let sound-here : AreSound era.base.state.settings = subst (λ (s : State). AreSound s.settings) (sym same) sound in
    let deals : HaveDeals (steps era.entries) = deals-in era.base [] era.entries joined.1.each in
    elim (found-or-on 256 x n until era.base.state [] (steps era.entries) sound-here here.few
    (record { deals = deals; silent = silent.0.silent; lists = lists-short era.base.state [] (steps era.entries) deals; known = here.known }) here.low) [
      | inl found ↦ inl (confirms x until era here.on found)
      | inr still ↦ inr (eras-from x n until (next_base era.base era.entries) last eras joined.2 sound-here still silent.1 late)
    ]

pub eras-find : (x n : ℕ) (start last : Base) (eras : List Era) → ErasFindSilent x n start eras last
eras-find x n start last eras f late =
    let until : ℕ = deadline 256 x start.state [] in
    let on : is_eligible_name (state_of start.state []) x ≡ true = subst (λ (s : State). is_eligible_name s x ≡ true) (sym f.reads) f.eligible in
    let here : GoesOn 256 x n until (state_of start.state []) = record {
      few = subst (λ (s : State). length s.rows ≤ 256) (sym f.reads) f.few;
      known = subst (λ (s : State). HasAtLeast n (row_of s.rows x)) (sym f.reads) f.known;
      on = on;
      low = same-le until;
      some = some-left 256 x start.state [] f.sound (sym (by_row x start.state []) ∙ on);
    } in
    eras-from x n until start last eras f.joined f.sound (subst (GoesOn 256 x n until) f.reads here) f.silent late
  where
    same-le : (a : ℕ) → a ≤ a
    same-le a = omega arith
