-- A tick that ends no period does the same, whatever it deals.
use Rattle.std.proofs.Common.{◌≡◌, ℕ, zero, suc, ◌+◌, ◌%◌, ◌==◌, Bool, true, false, cond, refl, sym, ◌∙◌, ap, List, [], ◌∷◌, ◌++◌, replicate, Option, Some, None}
use Rattle.std.specs.List.{find}
use Rattle.swim_rules.specs.declared.table.Row.{Row}
use Rattle.swim_rules.specs.Rows.{is_due}
use Rattle.swim_wire.specs.declared.update.UpdateKind.TheVariants.{Suspect, Confirm}
use Rattle.swim_member.specs.declared.event.Event.TheVariants.{Tick}
use Rattle.swim_member.specs.Judged as judged
use Rattle.swim_member.specs.declared.note.Note.TheVariants as note
use Rattle.swim_member.specs.declared.settings.Settings.{Settings}
use Rattle.swim_member.specs.declared.state.Phase.{Phase}
use Rattle.swim_member.specs.declared.state.Phase.TheVariants.{Running, Left, Expelled}
use Rattle.swim_member.specs.declared.tick.TheConstants.{LAST_TIME}
use Rattle.swim_member.specs.Events.{Action, Advance, Expire, Forget, Blame, Probe_next, Ask, perform, actions_of, each_from, Step, state_of, answer_in, tick_with, DealIsOfNoMatter}
use Rattle.swim_member.specs.Expiry.{expire_first, forget_first}
use Rattle.swim_member.specs.Judge.{judge_in}
use Rattle.swim_member.specs.Probe.{blame, is_at, ends_period}
use Rattle.swim_member.specs.State.{State}
use Rattle.swim_member.specs.Turn.{look}
use Rattle.swim_member.specs.Machinery.Steps.{apply_all, changes_from, step_news, after}
use Rattle.swim_member.proofs.Actions.{after-append, settings-apply_all, settings-after, news-append}
use Rattle.swim_member.proofs.Logs.{answer-step, state_of-snoc}
use Rattle.swim_member.proofs.Ticking.{time-blamed}

-- Time goes on by nothing but its advance

time-expire : (s : State) → (apply_all (perform s Expire) s).time ≡ s.time
time-expire s = by_row (find (is_due Suspect s.settings.suspect s.time) s.rows)
  where
    by_row : (o : Option Row) → (apply_all (expire_first o) s).time ≡ s.time
    by_row None = refl
    by_row (Some r) = refl

time-forget : (s : State) → (apply_all (perform s Forget) s).time ≡ s.time
time-forget s = by_row (find (is_due Confirm s.settings.forget s.time) s.rows)
  where
    by_row : (o : Option Row) → (apply_all (forget_first o) s).time ≡ s.time
    by_row None = refl
    by_row (Some r) = refl

time-blame : (s : State) → (apply_all (perform s Blame) s).time ≡ s.time
time-blame s = at (is_at s 0)
  where
    at : (b : Bool) → (apply_all (cond b (blame s s.probe) []) s).time ≡ s.time
    at false = refl
    at true = time-blamed s

time-replicate : (m : Action) → ((s : State) → (apply_all (perform s m) s).time ≡ s.time) → (n : ℕ) (s : State) → (after s (replicate n m)).time ≡ s.time
time-replicate m h zero s = refl
time-replicate m h (suc n) s = time-replicate m h n (apply_all (perform s m) s) ∙ h s

-- The deal is read where a period begins

unlooked : (s : State) (deal : List ℕ) → is_at s 0 ≡ false → perform s (Probe_next deal) ≡ []
unlooked s deal within = ap (λ b. cond b (look s deal) []) within

alike : (s : State) (front asks : List Action) (a b : List ℕ) → is_at (apply_all (perform (after s front) Blame) (after s front)) 0 ≡ false
    → changes_from s (front ++ Blame ∷ Probe_next a ∷ asks) ≡ changes_from s (front ++ Blame ∷ Probe_next b ∷ asks)
alike s front asks a b within =
    let t = after s front in
    let u = apply_all (perform t Blame) t in
    news-append s front (Blame ∷ Probe_next a ∷ asks)
    ∙ ap (λ happened. changes_from (apply_all happened u) asks ++ happened ++ perform t Blame ++ changes_from s front) (unlooked u a within ∙ sym (unlooked u b within))
    ∙ sym (news-append s front (Blame ∷ Probe_next b ∷ asks))

-- what is done before a target is looked for
abbrev front_of : ℕ → ℕ → List Action
front_of n k = Advance ∷ replicate n Expire ++ replicate k Forget

time-front : (s : State) (n k : ℕ) → (after s (front_of n k)).time ≡ s.time + 1
time-front s n k =
    let s1 = apply_all (perform s Advance) s in
    let s2 = after s1 (replicate n Expire) in
    ap (λ (x : State). x.time) (after-append s1 (replicate n Expire) (replicate k Forget))
    ∙ time-replicate Forget time-forget k s2
    ∙ time-replicate Expire time-expire n s1

unended : (s : State) (n k : ℕ) → ends_period s ≡ false → is_at (apply_all (perform (after s (front_of n k)) Blame) (after s (front_of n k))) 0 ≡ false
unended s n k within =
    let t = after s (front_of n k) in
    let u = apply_all (perform t Blame) t in
    ap (λ i. i % u.settings.period == 0) (time-blame t ∙ time-front s n k)
    ∙ ap (λ (x : Settings). (s.time + 1) % x.period == 0) (settings-apply_all (perform t Blame) t ∙ settings-after s (front_of n k))
    ∙ within

undealt : (s : State) (a b : List ℕ) (granted : ℕ) → ends_period s ≡ false → step_news s (Tick a) granted ≡ step_news s (Tick b) granted
undealt s a b granted within = by_phase s.phase
  where
    by_time : (over : Bool) → changes_from s (actions_of (cond over (judged.Note note.TimeOver) (judged.Tick a)) granted) ≡ changes_from s (actions_of (cond over (judged.Note note.TimeOver) (judged.Tick b)) granted)
    by_time true = refl
    by_time false = alike s (front_of 256 256) (each_from 0 8 (λ k. Ask k)) a b (unended s 256 256 within)

    by_phase : (p : Phase) → changes_from s (actions_of (judge_in p s (Tick a)) granted) ≡ changes_from s (actions_of (judge_in p s (Tick b)) granted)
    by_phase Running = by_time (s.time == LAST_TIME)
    by_phase Left = refl
    by_phase Expelled = refl

-- where no period ends, every deal gives the same answer and the same next state
pub of_no_matter : (s : State) → ends_period s ≡ false → (base : State) (steps : List Step) → state_of base steps ≡ s → DealIsOfNoMatter base steps
of_no_matter s within base steps is a b granted = (
  answer-step base steps (Tick a) granted s is
      ∙ ap answer_in (undealt s a b granted within)
      ∙ sym (answer-step base steps (Tick b) granted s is),
  state_of-snoc base steps (tick_with a granted) s is
      ∙ ap (λ happened. apply_all happened s) (undealt s a b granted within)
      ∙ sym (state_of-snoc base steps (tick_with b granted) s is),
)
