-- What a run looks for is what the law of detection says.
use Rattle.std.proofs.Common.{◌≡◌, ℕ, ◌+◌, ◌-◌, ◌%◌, ◌≤◌, ◌==◌, ◌&&◌, nat_le, nat_lt, not, Bool, true, false, cond, refl, sym, ◌∙◌, ap, subst, inl, inr, List, [], ◌∷◌, ◌++◌, Option, Some, None, arith}
use Rattle.std.proofs.lemmas.Bool.{cases_Bool, eqb-true, eq-eqb, and_parts, false≢true, le-leb, leb-true, ltb-true, ltb-false}
use Rattle.swim_wire.specs.declared.update.Update.{Update}
use Rattle.swim_wire.specs.declared.update.UpdateKind.{UpdateKind}
use Rattle.swim_wire.specs.declared.update.UpdateKind.TheVariants.{Alive, Suspect, Confirm}
use Rattle.swim_rules.specs.declared.table.Row.{Row}
use Rattle.swim_rules.specs.Rows.{row_of, is_kind, is_due, confirm_of}
use Rattle.swim_rules.proofs.Hearing.{about-row_of}
use Rattle.swim_member.specs.Judged as judged
use Rattle.swim_member.specs.declared.own_number.OwnNumber.{OwnNumber}
use Rattle.swim_member.specs.declared.settings.Settings.{Settings}
use Rattle.swim_member.specs.declared.state.Probe.{Probe}
use Rattle.swim_wire.specs.declared.datagram.Datagram.{Datagram}
use Rattle.swim_member.specs.Checks.{AreSound}
use Rattle.swim_member.specs.Events.{Step, changes_of, log_after, log_of, state_of}
use Rattle.swim_member.specs.Judge.{judge}
use Rattle.swim_member.specs.Member.{is_eligible_name}
use Rattle.swim_member.specs.Probe.{ends_period, suspect_of}
use Rattle.swim_member.specs.Readings.{state}
use Rattle.swim_member.specs.State.{State, Change, Ticked}
use Rattle.swim_member.specs.Machinery.Steps.{apply}
use Rattle.swim_member.proofs.FewRows.{order-read}
use Rattle.swim_detect.specs.Causes.{HasCause, Accused, Expired}
use Rattle.swim_detect.specs.Finding.{StaysEligible, GetsFound, is_waited_for}
use Rattle.swim_detect.proofs.Dues.{KeepsOrLoses, keeps-same}
use Rattle.swim_detect.proofs.Causing.{CameFrom, Accuses, Ticks_hear, Was_due, Was_accused, there}
use Rattle.swim_detect.proofs.Caused.{HearsBy, By_datagram, By_tick, accusation, expiry, hears-by}
use Rattle.swim_detect.proofs.Found.{log-append}
use Rattle.swim_detect.proofs.Silent.{silent-found}
use Rattle.swim_simulate.specs.declared.detection.Deadline.{Deadline}
use Rattle.swim_simulate.specs.Detection.{IsHeldBriefly, made_of, cause_at_tick, CausesAreNamed, TicksHaveCauses}
use Rattle.swim_detect.proofs.Found.{first-now}

-- Deadlines

stays-at : (x : ℕ) (base : State) (log : List Change) (done rest : List Step) → StaysEligible x base log (done ++ rest) → is_eligible_name (state base (log_after base log done)) x ≡ true
stays-at x base log [] rest h = first-now x base log rest h
stays-at x base log (e ∷ done) rest h = stays-at x base (changes_of base log e.event e.granted ++ log) done rest h.1

pub held-briefly : (most : ℕ) (row : Row) (deadline : Deadline) (base : State) (before stretch : List Step) → IsHeldBriefly most row deadline base before stretch
held-briefly most row deadline base before stretch sound held set silence stays =
    elim (cases_Bool (nat_lt (state_of base (before ++ stretch)).time deadline.due)) [
      | inl h ↦ ltb-true (state_of base (before ++ stretch)).time deadline.due h
      | inr h ↦ absurd (false≢true (sym (found (ltb-false (state_of base (before ++ stretch)).time deadline.due h)) ∙ refl))
    ]
  where
    found : deadline.due ≤ (state_of base (before ++ stretch)).time → true ≡ false
    found late =
        let f : GetsFound most row.update.who base before stretch = silent-found most row.update.who deadline.number base before stretch sound silence (subst (λ n. n ≤ (state_of base (before ++ stretch)).time) (set.due held) late) in
        sym (stays-at row.update.who base (log_of base before) f.done f.rest (subst (StaysEligible row.update.who base (log_of base before)) f.parts stays))
        ∙ subst (λ l. is_eligible_name (state base l) row.update.who ≡ false) (log-append base [] before f.done) f.found

-- Causes

kept : (x : ℕ) (base : State) (before : List Step) → KeepsOrLoses x (apply Ticked (state_of base before)) (apply Ticked (state_of base before))
kept x base before = keeps-same x (apply Ticked (state_of base before)) (order-read base (log_of base before))

module _ (base : State) (before : List Step) (e : Step) where
  abbrev s : State
  s = state_of base before

  accused : (deal : List ℕ) (r : Row) (u : Update) → AreSound base.settings → judge s e.event ≡ judged.Tick deal → row_of s.rows r.update.who ≡ Some r → r.update.kind ≡ Alive → suspect_of r ≡ u → ends_period s ≡ true → is_waited_for r.update.who s.probe ≡ true → HasCause base before e u
  accused deal r u sound j held alive same ends waited = by_probe s.probe refl waited
    where
      by_parts : (q : Probe) → s.probe ≡ Some q → q.target ≡ r.update.who → q.answered ≡ false → HasCause base before e u
      by_parts q o t a =
          let l : 2 ≤ base.settings.period = sound.period_low in
          let who : r.update.who ≡ u.who = ap (λ (v : Update). v.who) same in
          let acc : Accuses (apply Ticked s) u = record {
            at = ends;
            probe = q;
            opened = o;
            unanswered = a;
            target = t ∙ who;
            row = r;
            held = ap (row_of s.rows) (sym who) ∙ held;
            alive = alive;
            number = ap (λ (v : Update). v.number) same;
            suspected = sym (ap (λ (v : Update). v.kind) same);
          } in
          Accused acc.suspected (accusation base before e u (omega arith) deal j (apply Ticked s) (kept u.who base before) acc).0

      by_probe : (o : Option Probe) → s.probe ≡ o → is_waited_for r.update.who o ≡ true → HasCause base before e u
      by_probe None o w = absurd (false≢true w)
      by_probe (Some q) o w =
          let parts = and_parts (q.target == r.update.who) (not q.answered) w in
          by_parts q o (eqb-true q.target r.update.who parts.0) (negated q.answered parts.1)
        where
          negated : (b : Bool) → not b ≡ true → b ≡ false
          negated true h = absurd (false≢true h)
          negated false h = refl

  expired : (deal : List ℕ) (r : Row) (u : Update) → judge s e.event ≡ judged.Tick deal → row_of s.rows r.update.who ≡ Some r → r.update.kind ≡ Suspect → confirm_of r ≡ u → is_due Suspect s.settings.suspect (s.time + 1) r ≡ true → HasCause base before e u
  expired deal r u j held suspected same due =
      let who : r.update.who ≡ u.who = ap (λ (v : Update). v.who) same in
      let parts = and_parts (is_kind Suspect r.update.kind) (nat_le s.settings.suspect (s.time + 1 - r.since)) due in
      let came : CameFrom (apply Ticked s) u = record {
        row = r;
        held = ap (row_of s.rows) (sym who) ∙ held;
        suspected = suspected;
        number = ap (λ (v : Update). v.number) same;
        long = leb-true s.settings.suspect (s.time + 1 - r.since) parts.1;
        confirm = sym (ap (λ (v : Update). v.kind) same);
      } in
      Expired came.confirm (expiry base before e u deal j came).0

  pub causes-named : CausesAreNamed base before e
  causes-named deal r u sound j held made = by_kind r.update.kind refl made
    where
      at_alive : (a b : Bool) → (ends_period s ≡ a) → (is_waited_for r.update.who s.probe ≡ b) → r.update.kind ≡ Alive → cond (a && b) (Some (suspect_of r)) None ≡ Some u → HasCause base before e u
      at_alive true true ends waited k h = accused deal r u sound j held k (let same : suspect_of r ≡ u = cc in same) ends waited
      at_alive true false ends waited k h = absurd (cc)
      at_alive false b ends waited k h = absurd (cc)

      at_suspect : (a : Bool) → is_due Suspect s.settings.suspect (s.time + 1) r ≡ a → r.update.kind ≡ Suspect → cond a (Some (confirm_of r)) None ≡ Some u → HasCause base before e u
      at_suspect true due k h = expired deal r u j held k (let same : confirm_of r ≡ u = cc in same) due
      at_suspect false due k h = absurd (cc)

      by_kind : (k : UpdateKind) → r.update.kind ≡ k → made_of s r k ≡ Some u → HasCause base before e u
      by_kind Alive k h = at_alive (ends_period s) (is_waited_for r.update.who s.probe) refl refl k h
      by_kind Suspect k h = at_suspect (is_due Suspect s.settings.suspect (s.time + 1) r) refl k h
      by_kind Confirm k h = absurd (cc)

  -- All of them

  update-is : (u : Update) (k : UpdateKind) (x n : ℕ) → u.kind ≡ k → u.who ≡ x → u.number ≡ n → u ≡ record { kind = k; who = x; number = n }
  update-is u k x n a b c =
      ap (λ i. record { kind = i; who = u.who; number = u.number }) a
      ∙ ap (λ i. record { kind = k; who = i; number = u.number }) b
      ∙ ap (λ i. record { kind = k; who = x; number = i }) c

  abbrev Made : Update → Type 0
  Made u = (r : Row) × (row_of s.rows u.who ≡ Some r) × (cause_at_tick s r ≡ Some u)

  made-due : (u : Update) → CameFrom (apply Ticked s) u → Made u
  made-due u c =
      let who : c.row.update.who ≡ u.who = about-row_of s.rows u.who c.row c.held in
      let due : is_due Suspect s.settings.suspect (s.time + 1) c.row ≡ true = rw (ap (is_kind Suspect) c.suspected, le-leb s.settings.suspect (s.time + 1 - c.row.since) c.long) refl in
      let same : confirm_of c.row ≡ u = sym (update-is u Confirm c.row.update.who c.row.update.number c.confirm (sym who) (sym c.number)) in
      (c.row, c.held, ap (made_of s c.row) c.suspected ∙ ap (λ b. cond b (Some (confirm_of c.row)) None) due ∙ ap (λ v. Some v) same)

  made-accused : (u : Update) (t : State) → KeepsOrLoses u.who (apply Ticked s) t → Accuses t u → Made u
  made-accused u t k a =
      let held : row_of s.rows u.who ≡ Some a.row = there u.who (apply Ticked s) t a.row k a.held (ap (λ d. not (is_kind Confirm d)) a.alive) in
      let who : a.row.update.who ≡ u.who = about-row_of s.rows u.who a.row held in
      let ends : ends_period s ≡ true = ap (λ (c : Settings). (s.time + 1) % c.period == 0) (sym k.settings) ∙ ap (λ i. i % t.settings.period == 0) (sym k.time) ∙ a.at in
      let waited : is_waited_for a.row.update.who s.probe ≡ true = ap (is_waited_for a.row.update.who) (sym k.probe ∙ a.opened) ∙ opened a.probe a.row.update.who (a.target ∙ sym who) a.unanswered in
      let same : suspect_of a.row ≡ u = sym (update-is u Suspect a.row.update.who a.row.update.number a.suspected (sym who) (sym a.number)) in
      (a.row, held, ap (made_of s a.row) a.alive ∙ rw (ends, waited) (ap (λ v. Some v) same))
    where
      opened : (q : Probe) (x : ℕ) → q.target ≡ x → q.answered ≡ false → (q.target == x && not q.answered) ≡ true
      opened q x h f = rw (eq-eqb q.target x h, f) refl

  pub ticks-caused : TicksHaveCauses base before e
  ticks-caused deal u j has = by_way (hears-by base before e u has)
    where
      ticked : Ticks_hear s u → Made u
      ticked (Was_due c) = made-due u c
      ticked (Was_accused t k a) = made-accused u t k a

      by_way : HearsBy s e u → Made u
      by_way (By_datagram p own i h) = absurd (other p own (sym i ∙ j))
        where
          other : (p : Datagram) (own : OwnNumber) → judged.Datagram p own ≡ judged.Tick deal → ⊥
          other p own h = cc
      by_way (By_tick d i h) = ticked h
