-- An eligible x that nothing spares loses a tick by each tick, and so it is found.
use Rattle.std.proofs.Common.{◌≡◌, ℕ, ◌+◌, ◌<◌, ◌≤◌, true, false, not, refl, sym, ◌∙◌, ap, subst, inl, inr, ◌⊎◌, List, [], ◌∷◌, ◌++◌, length, Option, Some, None, arith}
use Rattle.std.specs.List.{AllByRecursion}
use Rattle.std.proofs.lemmas.Bool.{cases_Bool, false≢true}
use Rattle.swim_wire.specs.declared.update.UpdateKind.{UpdateKind}
use Rattle.swim_wire.specs.declared.update.UpdateKind.TheVariants.{Alive, Suspect, Confirm}
use Rattle.swim_rules.specs.declared.table.Row.{Row}
use Rattle.swim_rules.specs.Rows.{row_of, is_kind}
use Rattle.swim_member.specs.Judged as judged
use Rattle.swim_member.specs.Checks.{AreSound}
use Rattle.swim_rules.specs.Deals.{IsDeal}
use Rattle.swim_member.specs.Judge.{HasDeal}
use Rattle.swim_member.specs.Member.{is_eligible_name}
use Rattle.swim_member.specs.State.{State, Change}
use Rattle.swim_member.specs.Readings.{state}
use Rattle.swim_member.specs.Events.{Step, Action, actions, actions_of, changes_of, changes_by, log_after, log_of, state_of}
use Rattle.swim_member.specs.Machinery.Steps.{apply_all, after, changes_from, step_news}
use Rattle.swim_member.proofs.Actions.{after-news}
use Rattle.swim_member.proofs.Logs.{state-append, news-news_from}
use Rattle.swim_member.proofs.FewRows.{order-read, few-from}
use Rattle.swim_member.specs.Machinery.Kept.{is_row}
use Rattle.swim_detect.specs.Finding.{is_alive, is_eligible_row, IsConfirmed, ticks_alive, ticks_by_kind, ticks_to_suspect, ticks_with, ticks_left, NeverSpares, happened_in, StaysEligible, GoesUnspared, IsShort, IsAliveBriefly, IsEligibleBriefly, IsFoundInTime}
use Rattle.swim_detect.proofs.Views.{eligible-row}
use Rattle.swim_detect.proofs.Outside.{Kinds, Counts, Outer, kind-of, Unspared, unspared-read, unspared-early, unspared-late, GivesNone, outside-all, long-enough}
use Rattle.swim_detect.proofs.Ticks.{TickLess, tick-on, eligible-some}
use Rattle.swim_detect.proofs.Lists.{all-front, all-back}

-- a row that is eligible has a tick left
row-left : (alive suspect now : ℕ) (o : Option Row) → suspect < alive → is_eligible_row o ≡ true → 1 ≤ ticks_with alive suspect now o
row-left alive suspect now None l h = absurd (false≢true h)
row-left alive suspect now (Some r) l h = at r.update.kind h
  where
    at : (k : UpdateKind) → not (is_kind Confirm k) ≡ true → 1 ≤ ticks_by_kind alive suspect now k r.since
    at Alive h = omega arith
    at Suspect h = omega arith
    at Confirm h = absurd (false≢true h)

-- what a step does
pub record StepLess (most x : ℕ) (s t : State) : Type 0 where
  pub soon : t.time ≤ s.time + 1
  pub row : is_row (row_of t.rows x) ≡ true
  pub less : (is_eligible_row (row_of t.rows x) ≡ false) ⊎ (t.time + ticks_left most x t ≤ s.time + ticks_left most x s)

pub step-on : (most x : ℕ) (base : State) (log : List Change) (e : Step) → AreSound base.settings → length (state base log).rows ≤ 256 → is_eligible_row (row_of (state base log).rows x) ≡ true → HasDeal e.event
    → NeverSpares x base log (changes_of base log e.event e.granted) → AllByRecursion (IsShort most) (changes_of base log e.event e.granted)
    → StepLess most x (state base log) (state base (changes_of base log e.event e.granted ++ log))
step-on most x base log e sound few now deal spared short =
    subst (λ t. StepLess most x s t) (sym is) (by_kind (kind-of s e.event e.granted))
  where
    s : State
    s = state base log

    news : changes_of base log e.event e.granted ≡ step_news s e.event e.granted
    news = news-news_from base log (actions s e.event e.granted)

    is : state base (changes_of base log e.event e.granted ++ log) ≡ apply_all (step_news s e.event e.granted) s
    is = state-append base (changes_of base log e.event e.granted) log ∙ ap (λ fs. apply_all fs s) news

    low : 1 ≤ base.settings.period
    low = let l : 2 ≤ base.settings.period = sound.period_low in omega arith

    ticked : (deal : List ℕ) → IsDeal deal → actions s e.event e.granted ≡ actions_of (judged.Tick deal) e.granted → StepLess most x s (apply_all (step_news s e.event e.granted) s)
    ticked deal d same =
        let less : TickLess most x s (after s (actions_of (judged.Tick deal) e.granted)) =
        tick-on most x base log 256 256 deal d low sound.suspect_low sound.forget_low few few now
        (subst (λ ms. AllByRecursion (IsShort most) (changes_from s ms)) same (subst (λ fs. AllByRecursion (IsShort most) fs) news short)) in
        subst (λ t. StepLess most x s t) (sym (after-news s (actions s e.event e.granted) ∙ ap (after s) same))
        (record { soon = let t : (after s (actions_of (judged.Tick deal) e.granted)).time ≡ s.time + 1 = less.time in same-most (after s (actions_of (judged.Tick deal) e.granted)).time (s.time + 1) t; row = less.row; less = less.less })
      where
        same-most : (a b : ℕ) → a ≡ b → a ≤ b
        same-most a b e = omega arith

    by_kind : Kinds s e.event e.granted → StepLess most x s (apply_all (step_news s e.event e.granted) s)
    by_kind (Counts names f same) = ticked names (subst HasDeal f deal) same
    by_kind (Outer out) =
        let none : GivesNone most x s (apply_all (step_news s e.event e.granted) s) =
        outside-all most x (step_news s e.event e.granted) s out
        (subst (λ fs. Unspared x s fs) news (unspared-read x base log (changes_of base log e.event e.granted) spared))
        low (eligible-some (row_of s.rows x) now) in
        let t : State = apply_all (step_news s e.event e.granted) s in
        record {
          soon = soon t.time s.time none.time;
          row = none.some;
          less = inr (less t.time s.time (ticks_left most x t) (ticks_left most x s) none.time none.less);
        }
      where
        soon : (a b : ℕ) → a ≡ b → a ≤ b + 1
        soon a b e = omega arith

        less : (a b c d : ℕ) → a ≡ b → c ≤ d → a + c ≤ b + d
        less a b c d e f = omega arith

-- Over a stretch

pub log-append : (base : State) (log : List Change) (a b : List Step) → log_after base log (a ++ b) ≡ log_after base (log_after base log a) b
log-append base log [] b = refl
log-append base log (e ∷ a) b = log-append base (changes_of base log e.event e.granted ++ log) a b

-- an x that is eligible has a tick left
pub some-left : (most x : ℕ) (base : State) (log : List Change) → AreSound base.settings → is_eligible_row (row_of (state base log).rows x) ≡ true → 1 ≤ ticks_left most x (state base log)
some-left most x base log sound now =
    let l : 2 ≤ base.settings.period = sound.period_low in
    row-left (ticks_alive most x (state base log)) base.settings.suspect (state base log).time (row_of (state base log).rows x) (long-enough most x (state base log) (omega arith)) now

-- it is eligible by its row
pub by_row : (x : ℕ) (base : State) (log : List Change) → is_eligible_name (state base log) x ≡ is_eligible_row (row_of (state base log).rows x)
by_row x base log = eligible-row (state base log).rows x (order-read base log)

-- one step of a stretch
step-of : (most x : ℕ) (base : State) (log : List Change) (e : Step) (steps : List Step) → AreSound base.settings → length (state base log).rows ≤ 256 → is_eligible_name (state base log) x ≡ true → GoesUnspared most x base log (e ∷ steps) → StepLess most x (state base log) (state base (changes_of base log e.event e.granted ++ log))
step-of most x base log e steps sound few now h =
    let fs : List Change = changes_of base log e.event e.granted in
    let gs : List Change = happened_in base (fs ++ log) steps in
    step-on most x base log e sound few (sym (by_row x base log) ∙ now) h.deals.0
    (unspared-early x base log gs fs h.unspared)
    (all-back (IsShort most) gs fs h.lists)

-- and the rest
rest-of : (most x : ℕ) (base : State) (log : List Change) (e : Step) (steps : List Step) → GoesUnspared most x base log (e ∷ steps) → GoesUnspared most x base (changes_of base log e.event e.granted ++ log) steps
rest-of most x base log e steps h =
    let fs : List Change = changes_of base log e.event e.granted in
    let gs : List Change = happened_in base (fs ++ log) steps in
    record {
      deals = h.deals.1;
      unspared = unspared-late x base log gs fs h.unspared;
      lists = all-front (IsShort most) gs fs h.lists;
    }

pub few-step : (base : State) (log : List Change) (e : Step) → length (state base log).rows ≤ 256 → length (state base (changes_of base log e.event e.granted ++ log)).rows ≤ 256
few-step base log e few =
    let ms : List Action = actions (state base log) e.event e.granted in
    subst (λ (t : State). length t.rows ≤ 256)
    (ap (λ fs. apply_all fs (state base log)) (sym (news-news_from base log ms)) ∙ sym (state-append base (changes_by base log ms) log))
    (few-from base log ms few)

pub first-now : (x : ℕ) (base : State) (log : List Change) (steps : List Step) → StaysEligible x base log steps → is_eligible_name (state base log) x ≡ true
first-now x base log [] h = h
first-now x base log (e ∷ steps) h = h.0

pub through-le : (a b c : ℕ) → a ≤ b → b ≤ c → a ≤ c
through-le a b c f g = omega arith

-- over the stretch it loses a tick by each tick
less-from : (most x : ℕ) (base : State) (log : List Change) (steps : List Step) → AreSound base.settings → length (state base log).rows ≤ 256 → GoesUnspared most x base log steps → StaysEligible x base log steps → (state base (log_after base log steps)).time + ticks_left most x (state base (log_after base log steps)) ≤ (state base log).time + ticks_left most x (state base log)
less-from most x base log [] sound few h now = same-le ((state base log).time + ticks_left most x (state base log))
  where
    same-le : (a : ℕ) → a ≤ a
    same-le a = omega arith
less-from most x base log (e ∷ steps) sound few h now =
    let next : List Change = changes_of base log e.event e.granted ++ log in
    let one : StepLess most x (state base log) (state base next) = step-of most x base log e steps sound few now.0 h in
    let later : (state base (log_after base next steps)).time + ticks_left most x (state base (log_after base next steps)) ≤ (state base next).time + ticks_left most x (state base next) = less-from most x base next steps sound (few-step base log e few) (rest-of most x base log e steps h) now.1 in
    by_less one.less later
  where
    by_less : (is_eligible_row (row_of (state base (changes_of base log e.event e.granted ++ log)).rows x) ≡ false)
        ⊎ ((state base (changes_of base log e.event e.granted ++ log)).time + ticks_left most x (state base (changes_of base log e.event e.granted ++ log)) ≤ (state base log).time + ticks_left most x (state base log))
        → (state base (log_after base (changes_of base log e.event e.granted ++ log) steps)).time + ticks_left most x (state base (log_after base (changes_of base log e.event e.granted ++ log) steps)) ≤ (state base (changes_of base log e.event e.granted ++ log)).time + ticks_left most x (state base (changes_of base log e.event e.granted ++ log))
        → (state base (log_after base (changes_of base log e.event e.granted ++ log) steps)).time + ticks_left most x (state base (log_after base (changes_of base log e.event e.granted ++ log) steps)) ≤ (state base log).time + ticks_left most x (state base log)
    by_less (inl f) later = absurd (false≢true (sym f ∙ sym (by_row x base (changes_of base log e.event e.granted ++ log)) ∙ first-now x base (changes_of base log e.event e.granted ++ log) steps now.1))
    by_less (inr l) later = through-le ((state base (log_after base (changes_of base log e.event e.granted ++ log) steps)).time + ticks_left most x (state base (log_after base (changes_of base log e.event e.granted ++ log) steps))) ((state base (changes_of base log e.event e.granted ++ log)).time + ticks_left most x (state base (changes_of base log e.event e.granted ++ log))) ((state base log).time + ticks_left most x (state base log)) later l

last-now : (x : ℕ) (base : State) (log : List Change) (steps : List Step) → StaysEligible x base log steps → is_eligible_name (state base (log_after base log steps)) x ≡ true
last-now x base log [] h = h
last-now x base log (e ∷ steps) h = last-now x base (changes_of base log e.event e.granted ++ log) steps h.1

brief-from : (most x : ℕ) (base : State) (log : List Change) (steps : List Step) → AreSound base.settings → length (state base log).rows ≤ 256 → GoesUnspared most x base log steps → StaysEligible x base log steps → (state base (log_after base log steps)).time < (state base log).time + ticks_left most x (state base log)
brief-from most x base log steps sound few h now =
    let end : List Change = log_after base log steps in
    let l : 1 ≤ ticks_left most x (state base end) = some-left most x base end sound (sym (by_row x base end) ∙ last-now x base log steps now) in
    plain (state base end).time (ticks_left most x (state base end)) ((state base log).time + ticks_left most x (state base log)) l (less-from most x base log steps sound few h now)
  where
    plain : (a b c : ℕ) → 1 ≤ b → a + b ≤ c → a < c
    plain a b c l h = omega arith

pub brief : (most x : ℕ) (base : State) (before stretch : List Step) → IsEligibleBriefly most x base before stretch
brief most x base before stretch h k now =
    subst (λ l. (state base l).time < (state_of base before).time + ticks_left most x (state_of base before)) (sym (log-append base [] before stretch))
    (brief-from most x base (log_of base before) stretch h.sound h.few k now)

-- an Alive row has all ticks left
pub alive-left : (alive suspect now : ℕ) (o : Option Row) → is_alive o ≡ true → ticks_with alive suspect now o ≡ alive
alive-left alive suspect now None h = absurd (false≢true h)
alive-left alive suspect now (Some r) h = at r.update.kind h
  where
    at : (k : UpdateKind) → is_kind Alive k ≡ true → ticks_by_kind alive suspect now k r.since ≡ alive
    at Alive h = refl
    at Suspect h = absurd (false≢true h)
    at Confirm h = absurd (false≢true h)

-- at both ends Alive, it has lost no tick of its suspicion
pub alive-brief : (most x : ℕ) (base : State) (before stretch : List Step) → IsAliveBriefly most x base before stretch
alive-brief most x base before stretch h k now first last =
    let log : List Change = log_of base before in
    let end : List Change = log_after base log stretch in
    let same : log_of base (before ++ stretch) ≡ end = log-append base [] before stretch in
    let low : 1 ≤ base.settings.period = (let l : 2 ≤ base.settings.period = h.sound.period_low in omega arith) in
    subst (λ l. (state base l).time < (state_of base before).time + ticks_to_suspect most x (state_of base before)) (sym same)
    (plain (state base end).time (ticks_left most x (state base end)) (ticks_alive most x (state base end)) base.settings.suspect (state base log).time (ticks_left most x (state base log)) (ticks_to_suspect most x (state base log))
    (alive-left (ticks_alive most x (state base end)) base.settings.suspect (state base end).time (row_of (state base end).rows x) (subst (λ l. is_alive (row_of (state base l).rows x) ≡ true) same last))
    (alive-left (ticks_alive most x (state base log)) base.settings.suspect (state base log).time (row_of (state base log).rows x) first)
    (long-enough most x (state base end) low)
    (less-from most x base log stretch h.sound h.few k now))
  where
    plain : (a b f s c d e : ℕ) → b ≡ f → d ≡ e + s → s < f → a + b ≤ c + d → a < c + e
    plain a b f s c d e i j k l = omega arith

-- The first moment at which it is found

pub record FoundFrom (x until : ℕ) (base : State) (log : List Change) (steps : List Step) : Type 0 where
  pub done : List Step
  pub rest : List Step
  pub parts : steps ≡ done ++ rest
  pub found : is_eligible_name (state base (log_after base log done)) x ≡ false
  pub confirmed : is_eligible_name (state base log) x ≡ true → IsConfirmed x (state base (log_after base log done))
  pub soon : (state base (log_after base log done)).time ≤ until

sum-le : (a b c : ℕ) → a + b ≤ c → a ≤ c
sum-le a b c h = omega arith

pub never : (a b c : ℕ) → 1 ≤ b → a + b ≤ c → c ≤ a → ⊥
never a b c f g h = omega arith

pub after_one : (a b c d : ℕ) → a ≤ b + 1 → 1 ≤ c → b + c ≤ d → a ≤ d
after_one a b c d f g h = omega arith

-- it is found already
pub found-now : (x until left : ℕ) (base : State) (log : List Change) (steps : List Step) → (state base log).time + left ≤ until → is_eligible_name (state base log) x ≡ false → FoundFrom x until base log steps
found-now x until left base log steps low now = record { done = []; rest = steps; parts = refl; found = now; confirmed = λ on. absurd (false≢true (sym now ∙ on)); soon = sum-le (state base log).time left until low }

-- a row that is not eligible is a Confirm
confirm-row : (o : Option Row) → is_row o ≡ true → is_eligible_row o ≡ false → (r : Row) × (o ≡ Some r) × (r.update.kind ≡ Confirm)
confirm-row None h k = absurd (false≢true h)
confirm-row (Some r) h k = (r, refl, kind r.update.kind k)
  where
    kind : (d : UpdateKind) → not (is_kind Confirm d) ≡ false → d ≡ Confirm
    kind Alive k = absurd (false≢true (sym k))
    kind Suspect k = absurd (false≢true (sym k))
    kind Confirm k = refl

-- it is found by this step
pub found-next : (most x until : ℕ) (base : State) (log : List Change) (e : Step) (steps : List Step) → AreSound base.settings → is_eligible_name (state base log) x ≡ true → StepLess most x (state base log) (state base (changes_of base log e.event e.granted ++ log)) → is_eligible_name (state base (changes_of base log e.event e.granted ++ log)) x ≡ false → (state base log).time + ticks_left most x (state base log) ≤ until → FoundFrom x until base log (e ∷ steps)
found-next most x until base log e steps sound now one gone low =
    let next : List Change = changes_of base log e.event e.granted ++ log in
    record {
      done = e ∷ [];
      rest = steps;
      parts = refl;
      found = gone;
      confirmed = λ on. confirm-row (row_of (state base next).rows x) one.row (sym (by_row x base next) ∙ gone);
      soon = after_one (state base next).time (state base log).time (ticks_left most x (state base log)) until one.soon (some-left most x base log sound (sym (by_row x base log) ∙ now)) low;
    }

found-from : (most x until : ℕ) (base : State) (log : List Change) (steps : List Step) → AreSound base.settings → length (state base log).rows ≤ 256 → GoesUnspared most x base log steps
    → (state base log).time + ticks_left most x (state base log) ≤ until → until ≤ (state base (log_after base log steps)).time → FoundFrom x until base log steps
found-from most x until base log [] sound few h low high = elim (cases_Bool (is_eligible_name (state base log) x)) [
  | inl now ↦ absurd (never (state base log).time (ticks_left most x (state base log)) until (some-left most x base log sound (sym (by_row x base log) ∙ now)) low high)
  | inr now ↦ found-now x until (ticks_left most x (state base log)) base log [] low now
]
found-from most x until base log (e ∷ steps) sound few h low high =
    let next : List Change = changes_of base log e.event e.granted ++ log in
    elim (cases_Bool (is_eligible_name (state base log) x)) [
      | inr now ↦ found-now x until (ticks_left most x (state base log)) base log (e ∷ steps) low now
      | inl now ↦
          let one : StepLess most x (state base log) (state base next) = step-of most x base log e steps sound few now h in
          elim (cases_Bool (is_eligible_name (state base next) x)) [
            | inr gone ↦ found-next most x until base log e steps sound now one gone low
            | inl on ↦ elim one.less [
              | inl f ↦ absurd (false≢true (sym f ∙ sym (by_row x base next) ∙ on))
              | inr l ↦
                  let more : FoundFrom x until base next steps =
                  found-from most x until base next steps sound (few-step base log e few) (rest-of most x base log e steps h)
                  (through-le ((state base next).time + ticks_left most x (state base next)) ((state base log).time + ticks_left most x (state base log)) until l low) high in
                  record { done = e ∷ more.done; rest = more.rest; parts = ap (λ l. e ∷ l) more.parts; found = more.found; confirmed = λ _. more.confirmed on; soon = more.soon }
            ]
          ]
    ]

pub found-in_time : (most x : ℕ) (base : State) (before stretch : List Step) → IsFoundInTime most x base before stretch
found-in_time most x base before stretch h k high =
    let until : ℕ = (state_of base before).time + ticks_left most x (state_of base before) in
    let f : FoundFrom x until base (log_of base before) stretch =
    found-from most x until base (log_of base before) stretch h.sound h.few k (same-le until) (subst (λ l. until ≤ (state base l).time) (log-append base [] before stretch) high) in
    record {
      done = f.done;
      rest = f.rest;
      parts = f.parts;
      found = subst (λ l. is_eligible_name (state base l) x ≡ false) (sym (log-append base [] before f.done)) f.found;
      confirmed = λ on. subst (λ l. IsConfirmed x (state base l)) (sym (log-append base [] before f.done)) (f.confirmed on);
      soon = subst (λ l. (state base l).time ≤ until) (sym (log-append base [] before f.done)) f.soon;
    }
  where
    same-le : (a : ℕ) → a ≤ a
    same-le a = omega arith
