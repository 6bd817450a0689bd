-- What a member holds of another, through each action of an event and through a run.
use Rattle.std.proofs.Common.{◌≡◌, ◌≢◌, ℕ, ◌-◌, ◌==◌, ◌||◌, ◌⊎◌, inl, inr, nat_lt, nat_le, not, Bool, true, false, cond, refl, sym, ◌∙◌, ap, subst, List, [], ◌∷◌, ◌++◌, append_assoc, map, replicate, zero, suc, Option, Some, None}
use Rattle.std.specs.List.{find, AllByRecursion}
use Rattle.std.specs.Option.{option_map, IsSome}
use Rattle.std.proofs.lemmas.Bool.{cases_Bool, eqb-true, eqb-false, ne_eqb, and_parts, false≢true}
use Rattle.swim_wire.specs.declared.rules.Rules.{Rules}
use Rattle.swim_wire.specs.declared.update.TheConstants.{LEAP, NUMBER_MAX}
use Rattle.swim_wire.specs.declared.update.Update.{Update}
use Rattle.swim_wire.specs.declared.update.UpdateKind.{UpdateKind}
use Rattle.swim_wire.specs.declared.update.UpdateKind.TheVariants.{Alive, Suspect, Confirm}
use Rattle.swim_rules.specs.declared.table.Row.{Row}
use Rattle.swim_rules.specs.declared.table.Heard.{Heard as Hearing}
use Rattle.swim_rules.specs.declared.table.Heard.TheVariants as heard
use Rattle.swim_rules.specs.Rules.{overrides}
use Rattle.swim_rules.specs.Rows.{AreInOrder, row_of, put_row, remove_row, heard_row, answer_to, is_kind, is_due, confirm_of}
use Rattle.swim_rules.proofs.Order.{beats-trans}
use Rattle.swim_rules.proofs.Tables.{row_of-put, row_of-remove}
use Rattle.swim_rules.proofs.Changes.{found_here}
use Rattle.swim_member.specs.Judged.{Judged}
use Rattle.swim_member.specs.Judged as judged
use Rattle.swim_member.specs.declared.state.Probe.{Probe}
use Rattle.swim_member.specs.declared.settings.Settings.{Settings}
use Rattle.swim_member.specs.Checks.{rules_of}
use Rattle.swim_member.specs.State.{State, Change}
use Rattle.swim_member.specs.Readings.{state}
use Rattle.swim_member.specs.Hearing.{hear_other, heard_with}
use Rattle.swim_member.specs.Judge.{judge}
use Rattle.swim_member.specs.OwnNumber.{hear_own, is_suspicion}
use Rattle.swim_member.specs.Expiry.{expire_first, forget_first}
use Rattle.swim_member.specs.Probe.{is_at, blame, suspect_target, suspect_of}
use Rattle.swim_member.specs.Events.{Action, Hear, Settle, Reply, Advance, Expire, Forget, Blame, Probe_next, Ask, Depart, Bye, Join_peer, Show, Take, Step, perform, changes_by, actions_of, tick_actions, each_from, log_of, state_of}
use Rattle.swim_member.specs.Machinery.Steps.{apply_all}
use Rattle.swim_member.proofs.Logs.{state-append, log_after-snoc}
use Rattle.swim_member.proofs.FewRows.{order-read, same_rows}
use Rattle.swim_member.proofs.Keeping.{find-passes}
use Rattle.swim_member.proofs.Showing.{Lacks, IsQuiet, Tells, perform-no, settled-other}
use Rattle.swim_group.specs.Group.{Place, Group, Move, Happens, Restarts, begun, state_at, place_at, change_at, with_event, new_place, OfPlace, after_move, after_moves}
use Rattle.swim_group.specs.Views.{held_by, held_at, RisesOrGoes, IsNoRestart, HoldsOn}
use Rattle.swim_detect.proofs.Lists.{all-append, all-map, all-replicate, all-each}

-- how what is held of a member may change: whether it may come to be held, and whether it may be forgotten
abbrev pub Goes_by : (comes goes : Type 0) → Rules → Option Row → Option Row → Type 0
Goes_by comes goes rules None None = Unit {0}
Goes_by comes goes rules None (Some new) = comes
Goes_by comes goes rules (Some old) None = goes
Goes_by comes goes rules (Some old) (Some new) = (new ≡ old) ⊎ (overrides rules new.update old.update ≡ true)

over-both : (rules : Rules) (a b c : Row) → (b ≡ a) ⊎ (overrides rules b.update a.update ≡ true) → (c ≡ b) ⊎ (overrides rules c.update b.update ≡ true) → (c ≡ a) ⊎ (overrides rules c.update a.update ≡ true)
over-both rules a b c (inl e) (inl f) = inl (f ∙ e)
over-both rules a b c (inl e) (inr f) = inr (ap (λ (r : Row). overrides rules c.update r.update) (sym e) ∙ f)
over-both rules a b c (inr e) (inl f) = inr (ap (λ (r : Row). overrides rules r.update a.update) f ∙ e)
over-both rules a b c (inr e) (inr f) = inr (beats-trans rules c.update.kind c.update.number b.update.kind b.update.number a.update.kind a.update.number f e)

module _ (comes goes : Type 0) where
  goes-same : (rules : Rules) (a : Option Row) → Goes_by comes goes rules a a
  goes-same rules None = tt {0}
  goes-same rules (Some r) = inl refl

  goes-is : (rules : Rules) (a b : Option Row) → b ≡ a → Goes_by comes goes rules a b
  goes-is rules a b e = subst (λ o. Goes_by comes goes rules a o) (sym e) (goes-same rules a)

  -- one change after another, if not both may be
  goes-then : (comes → goes → ⊥) → (rules : Rules) (a b c : Option Row) → Goes_by comes goes rules a b → Goes_by comes goes rules b c → Goes_by comes goes rules a c
  goes-then apart rules None None None h k = tt {0}
  goes-then apart rules None None (Some z) h k = k
  goes-then apart rules None (Some y) None h k = tt {0}
  goes-then apart rules None (Some y) (Some z) h k = h
  goes-then apart rules (Some x) None None h k = h
  goes-then apart rules (Some x) None (Some z) h k = absurd (apart k h)
  goes-then apart rules (Some x) (Some y) None h k = k
  goes-then apart rules (Some x) (Some y) (Some z) h k = over-both rules x y z h k

  -- Rows

  put-known : (rules : Rules) (x : ℕ) (rows : List Row) (r t : Row) → row_of rows r.update.who ≡ Some t → overrides rules r.update t.update ≡ true → Goes_by comes goes rules (row_of rows x) (row_of (put_row rows r) x)
  put-known rules x rows r t known over = at (r.update.who == x) refl
    where
      at : (b : Bool) → (r.update.who == x) ≡ b → Goes_by comes goes rules (row_of rows x) (row_of (put_row rows r) x)
      at true e =
          let here : row_of rows x ≡ Some t = ap (row_of rows) (sym (eqb-true r.update.who x e)) ∙ known in
          let there : row_of (put_row rows r) x ≡ Some r = row_of-put rows r x ∙ ap (λ b. cond b (Some r) (row_of rows x)) e in
          subst (λ o. Goes_by comes goes rules o (row_of (put_row rows r) x)) (sym here) (subst (λ o. Goes_by comes goes rules (Some t) o) (sym there) (inr over))
      at false e = goes-is rules (row_of rows x) (row_of (put_row rows r) x) (row_of-put rows r x ∙ ap (λ b. cond b (Some r) (row_of rows x)) e)

  heard-known : (rules : Rules) (x : ℕ) (rows : List Row) (r t : Row) → row_of rows r.update.who ≡ Some t → Goes_by comes goes rules (row_of rows x) (row_of (heard_row rules (row_of rows r.update.who) rows r) x)
  heard-known rules x rows r t known = subst (λ o. Goes_by comes goes rules (row_of rows x) (row_of (heard_row rules o rows r) x)) (sym known) (at (overrides rules r.update t.update) refl)
    where
      at : (b : Bool) → overrides rules r.update t.update ≡ b → Goes_by comes goes rules (row_of rows x) (row_of (cond b (put_row rows r) rows) x)
      at true e = put-known rules x rows r t known e
      at false e = goes-same rules (row_of rows x)

  put-new : comes → (rules : Rules) (x : ℕ) (rows : List Row) (r : Row) → row_of rows r.update.who ≡ None → Goes_by comes goes rules (row_of rows x) (row_of (put_row rows r) x)
  put-new may rules x rows r lacks = at (r.update.who == x) refl
    where
      at : (b : Bool) → (r.update.who == x) ≡ b → Goes_by comes goes rules (row_of rows x) (row_of (put_row rows r) x)
      at true e =
          let here : row_of rows x ≡ None = ap (row_of rows) (sym (eqb-true r.update.who x e)) ∙ lacks in
          let there : row_of (put_row rows r) x ≡ Some r = row_of-put rows r x ∙ ap (λ b. cond b (Some r) (row_of rows x)) e in
          subst (λ o. Goes_by comes goes rules o (row_of (put_row rows r) x)) (sym here) (subst (λ o. Goes_by comes goes rules None o) (sym there) may)
      at false e = goes-is rules (row_of rows x) (row_of (put_row rows r) x) (row_of-put rows r x ∙ ap (λ b. cond b (Some r) (row_of rows x)) e)

  heard-any : comes → (rules : Rules) (x : ℕ) (rows : List Row) (r : Row) → Goes_by comes goes rules (row_of rows x) (row_of (heard_row rules (row_of rows r.update.who) rows r) x)
  heard-any may rules x rows r = at (row_of rows r.update.who) refl
    where
      at : (o : Option Row) → row_of rows r.update.who ≡ o → Goes_by comes goes rules (row_of rows x) (row_of (heard_row rules (row_of rows r.update.who) rows r) x)
      at None e = subst (λ o. Goes_by comes goes rules (row_of rows x) (row_of (heard_row rules o rows r) x)) (sym e) (put-new may rules x rows r e)
      at (Some t) e = heard-known rules x rows r t e

  removed : goes → (rules : Rules) (x y : ℕ) (rows : List Row) → AreInOrder rows → Goes_by comes goes rules (row_of rows x) (row_of (remove_row rows y) x)
  removed may rules x y rows order =
      subst (λ o. Goes_by comes goes rules (row_of rows x) o) (sym (row_of-remove rows y x order)) (at (y == x) (row_of rows x))
    where
      at : (b : Bool) (o : Option Row) → Goes_by comes goes rules o (cond b None o)
      at true None = tt {0}
      at true (Some r) = may
      at false o = goes-same rules o

  -- Actions

  -- what an action may do
  abbrev pub IsAllowed : Action → Type 0
  IsAllowed (Hear u) = comes
  IsAllowed Forget = goes
  IsAllowed _ = Unit {0}

  module _ (x : ℕ) where
    abbrev GoesFrom : State → List Change → Type 0
    GoesFrom s fs = Goes_by comes goes (rules_of s.settings) (row_of s.rows x) (row_of (apply_all fs s).rows x)

    -- changes of no row
    same-held : (fs : List Change) (s : State) → Lacks Tells fs → row_of (apply_all fs s).rows x ≡ row_of s.rows x
    same-held fs s a = ap (λ rows. row_of rows x) (same_rows fs s a)

    other-any : comes → (s : State) (u : Update) (a : Hearing) → GoesFrom s (heard_with a u)
    other-any may s u heard.Accepted = heard-any may (rules_of s.settings) x s.rows (record { update = u; since = s.time })
    other-any may s u heard.Kept = heard-any may (rules_of s.settings) x s.rows (record { update = u; since = s.time })
    other-any may s u heard.Unknown = goes-same (rules_of s.settings) (row_of s.rows x)
    other-any may s u heard.Full = goes-same (rules_of s.settings) (row_of s.rows x)

    other-known : (s : State) (u : Update) (t : Row) → row_of s.rows u.who ≡ Some t → (a : Hearing) → GoesFrom s (heard_with a u)
    other-known s u t e heard.Accepted = heard-known (rules_of s.settings) x s.rows (record { update = u; since = s.time }) t e
    other-known s u t e heard.Kept = heard-known (rules_of s.settings) x s.rows (record { update = u; since = s.time }) t e
    other-known s u t e heard.Unknown = goes-same (rules_of s.settings) (row_of s.rows x)
    other-known s u t e heard.Full = goes-same (rules_of s.settings) (row_of s.rows x)

    goes-perform : (s : State) (m : Action) → AreInOrder s.rows → IsAllowed m → GoesFrom s (perform s m)
    goes-perform s m order may = by_action m may
      where
        quiet : (m : Action) → IsQuiet Tells m → GoesFrom s (perform s m)
        quiet m q = goes-is (rules_of s.settings) (row_of s.rows x) (row_of (apply_all (perform s m) s).rows x) (same-held (perform s m) s (perform-no Tells s m q))

        still : GoesFrom s []
        still = goes-same (rules_of s.settings) (row_of s.rows x)

        noted : (u : Update) → GoesFrom s (hear_own (rules_of s.settings) s.number u)
        noted u =
            elim (cases_Bool (not (is_suspicion (rules_of s.settings) u.kind) || nat_lt u.number s.number)) [
              | inl t ↦ rw t still
              | inr f ↦ elim (cases_Bool (nat_lt LEAP (u.number - s.number))) [
                | inl t ↦ rw (f, t) still
                | inr g ↦ elim (cases_Bool (nat_le NUMBER_MAX u.number)) [ inl t ↦ rw (f, g, t) still | inr h ↦ rw (f, g, h) still ]
              ]
            ]

        by_own : comes → (u : Update) (b : Bool) → GoesFrom s (cond b (hear_own (rules_of s.settings) s.number u) (hear_other s u))
        by_own c u true = noted u
        by_own c u false = other-any c s u (answer_to (rules_of s.settings) s.rows u)

        expired : (o : Option Row) → find (is_due Suspect s.settings.suspect s.time) s.rows ≡ o → GoesFrom s (expire_first o)
        expired None e = still
        expired (Some r) e = heard-known (rules_of s.settings) x s.rows (record { update = confirm_of r; since = s.time }) r (found_here (is_due Suspect s.settings.suspect s.time) s.rows r order e)

        forgotten : goes → (o : Option Row) → GoesFrom s (forget_first o)
        forgotten g None = still
        forgotten g (Some r) = removed g (rules_of s.settings) x r.update.who s.rows order

        by_kind : (r : Row) → row_of s.rows r.update.who ≡ Some r → (b : Bool) → GoesFrom s (cond b (hear_other s (suspect_of r)) [])
        by_kind r e true = other-known s (suspect_of r) r e (answer_to (rules_of s.settings) s.rows (suspect_of r))
        by_kind r e false = still

        suspected : (q : ℕ) (o : Option Row) → row_of s.rows q ≡ o → GoesFrom s (suspect_target s o)
        suspected q None e = still
        suspected q (Some r) e = by_kind r (found_here (λ s. s.update.who == q) s.rows r order e) (is_kind Alive r.update.kind)

        by_answer : (q : Probe) (b : Bool) → GoesFrom s (cond b [] (suspect_target s (row_of s.rows q.target)))
        by_answer q true = still
        by_answer q false = suspected q.target (row_of s.rows q.target) refl

        blamed : (o : Option Probe) → GoesFrom s (blame s o)
        blamed None = still
        blamed (Some q) = by_answer q q.answered

        by_time : (b : Bool) → GoesFrom s (cond b (blame s s.probe) [])
        by_time true = blamed s.probe
        by_time false = still

        by_action : (m : Action) → IsAllowed m → GoesFrom s (perform s m)
        by_action (Hear u) c = by_own c u (u.who == s.settings.me)
        by_action (Settle own granted) c = quiet (Settle own granted) (settled-other Tells (λ e. cc) (λ e. cc) own)
        by_action (Reply p) c = quiet (Reply p) (λ e. cc)
        by_action Advance c = still
        by_action Expire c = expired (find (is_due Suspect s.settings.suspect s.time) s.rows) refl
        by_action Forget c = forgotten c (find (is_due Confirm s.settings.forget s.time) s.rows)
        by_action Blame c = by_time (is_at s 0)
        by_action (Probe_next deal) c = quiet (Probe_next deal) ((λ e. cc), (λ e. cc))
        by_action (Ask k) c = quiet (Ask k) tt
        by_action Depart c = quiet Depart tt
        by_action (Bye k) c = quiet (Bye k) (λ e. cc)
        by_action (Join_peer peer) c = quiet (Join_peer peer) tt
        by_action (Show cursor) c = quiet (Show cursor) (λ e. cc)
        by_action (Take n) c = still

    -- what a log holds of x
    abbrev held_after : State → List Change → Option Row
    held_after base log = row_of (state base log).rows x

    goes-action : (base : State) (log : List Change) (m : Action) → IsAllowed m → Goes_by comes goes (rules_of base.settings) (held_after base log) (held_after base (perform (state base log) m ++ log))
    goes-action base log m may =
        subst (λ (t : State). Goes_by comes goes (rules_of base.settings) (held_after base log) (row_of t.rows x)) (sym (state-append base (perform (state base log) m) log))
        (goes-perform (state base log) m (order-read base log) may)

    goes-actions : (comes → goes → ⊥) → (base : State) (log : List Change) (ms : List Action) → AllByRecursion IsAllowed ms → Goes_by comes goes (rules_of base.settings) (held_after base log) (held_after base (changes_by base log ms ++ log))
    goes-actions apart base log [] may = goes-same (rules_of base.settings) (held_after base log)
    goes-actions apart base log (m ∷ ms) may =
        let done : List Change = perform (state base log) m in
        goes-then apart (rules_of base.settings) (held_after base log) (held_after base (done ++ log)) (held_after base (changes_by base log (m ∷ ms) ++ log))
        (goes-action base log m may.0)
        (subst (λ (fs : List Change). Goes_by comes goes (rules_of base.settings) (held_after base (done ++ log)) (held_after base fs)) (sym (append_assoc (changes_by base (done ++ log) ms) done log))
        (goes-actions apart base (done ++ log) ms may.1))

-- An Alive is not forgotten

-- what is due is no Alive
due-other : (kind : UpdateKind) → kind ≢ Alive → (ticks now : ℕ) (r : Row) → is_due kind ticks now r ≡ true → r.update.kind ≢ Alive
due-other Alive ne ticks now r e = absurd (ne refl)
due-other Suspect ne ticks now r e = by_kind r.update.kind (and_parts (is_kind Suspect r.update.kind) (nat_le ticks (now - r.since)) e).0
  where
    by_kind : (k : UpdateKind) → is_kind Suspect k ≡ true → k ≢ Alive
    by_kind Alive h i = false≢true h
    by_kind Suspect h i = cc
    by_kind Confirm h i = cc
due-other Confirm ne ticks now r e = by_kind r.update.kind (and_parts (is_kind Confirm r.update.kind) (nat_le ticks (now - r.since)) e).0
  where
    by_kind : (k : UpdateKind) → is_kind Confirm k ≡ true → k ≢ Alive
    by_kind Alive h i = false≢true h
    by_kind Suspect h i = cc
    by_kind Confirm h i = cc

module _ (x : ℕ) (old : Row) (alive : old.update.kind ≡ Alive) where
  -- who is due is another member than the one that is held for Alive
  not-due : (kind : UpdateKind) → kind ≢ Alive → (ticks now : ℕ) (rows : List Row) (r : Row) → AreInOrder rows → row_of rows x ≡ Some old → find (is_due kind ticks now) rows ≡ Some r → (r.update.who == x) ≡ false
  not-due kind ne ticks now rows r order held found =
      ne_eqb r.update.who x (λ e.
      let known : row_of rows r.update.who ≡ Some r = found_here (is_due kind ticks now) rows r order found in
      let both : Some r ≡ Some old = sym known ∙ ap (row_of rows) e ∙ held in
      let same : r ≡ old = cc in
      due-other kind ne ticks now r (find-passes (is_due kind ticks now) rows r found) (ap (λ (w : Row). w.update.kind) same ∙ alive))

  -- the actions with which a tick begins
  abbrev IsEarly : Action → Type 0
  IsEarly Advance = Unit {0}
  IsEarly Expire = Unit {0}
  IsEarly Forget = Unit {0}
  IsEarly _ = ⊥

  other-heard : (rules : Rules) (rows : List Row) (r : Row) → (r.update.who == x) ≡ false → (o : Option Row) → row_of (heard_row rules o rows r) x ≡ row_of rows x
  other-heard rules rows r e None = row_of-put rows r x ∙ ap (λ b. cond b (Some r) (row_of rows x)) e
  other-heard rules rows r e (Some t) = at (overrides rules r.update t.update)
    where
      at : (b : Bool) → row_of (cond b (put_row rows r) rows) x ≡ row_of rows x
      at true = row_of-put rows r x ∙ ap (λ b. cond b (Some r) (row_of rows x)) e
      at false = refl

  early-perform : (s : State) (m : Action) → IsEarly m → AreInOrder s.rows → row_of s.rows x ≡ Some old → row_of (apply_all (perform s m) s).rows x ≡ Some old
  early-perform s Advance h order held = held
  early-perform s Expire h order held = expired (find (is_due Suspect s.settings.suspect s.time) s.rows) refl
    where
      expired : (o : Option Row) → find (is_due Suspect s.settings.suspect s.time) s.rows ≡ o → row_of (apply_all (expire_first o) s).rows x ≡ Some old
      expired None e = held
      expired (Some r) e =
          other-heard (rules_of s.settings) s.rows (record { update = confirm_of r; since = s.time }) (not-due Suspect (λ i. cc) s.settings.suspect s.time s.rows r order held e) (row_of s.rows r.update.who) ∙ held
  early-perform s Forget h order held = forgotten (find (is_due Confirm s.settings.forget s.time) s.rows) refl
    where
      forgotten : (o : Option Row) → find (is_due Confirm s.settings.forget s.time) s.rows ≡ o → row_of (apply_all (forget_first o) s).rows x ≡ Some old
      forgotten None e = held
      forgotten (Some r) e =
          row_of-remove s.rows r.update.who x order ∙ ap (λ b. cond b None (row_of s.rows x)) (not-due Confirm (λ i. cc) s.settings.forget s.time s.rows r order held e) ∙ held
  early-perform s _ h order held = absurd h

  -- these actions before others
  early-actions : (base : State) (ms rest : List Action) → AllByRecursion IsEarly ms → (log : List Change) → row_of (state base log).rows x ≡ Some old
      → ((later : List Change) → row_of (state base later).rows x ≡ Some old → row_of (state base (changes_by base later rest ++ later)).rows x ≢ None)
      → row_of (state base (changes_by base log (ms ++ rest) ++ log)).rows x ≢ None
  early-actions base [] rest h log held go = go log held
  early-actions base (m ∷ ms) rest h log held go =
      let done : List Change = perform (state base log) m in
      let next : row_of (state base (done ++ log)).rows x ≡ Some old =
      ap (λ (s : State). row_of s.rows x) (state-append base done log) ∙ early-perform (state base log) m h.0 (order-read base log) held in
      subst (λ (fs : List Change). row_of (state base fs).rows x ≢ None) (sym (append_assoc (changes_by base (done ++ log) (ms ++ rest)) done log))
      (early-actions base ms rest h.1 (done ++ log) next go)

-- Events

risen : (rules : Rules) (a b : Option Row) → Goes_by (Unit {0}) ⊥ rules a b → RisesOrGoes rules a b
risen rules None b h = tt {0}
risen rules (Some r) None h = absurd h
risen rules (Some r) (Some s) h = h

waned : (rules : Rules) (a b : Option Row) → Goes_by ⊥ (Unit {0}) rules a b → ((r : Row) → a ≡ Some r → r.update.kind ≡ Alive → b ≢ None) → RisesOrGoes rules a b
waned rules None b h f = tt {0}
waned rules (Some r) None h f = λ alive. f r refl alive refl
waned rules (Some r) (Some s) h f = h

-- a tick ends with actions that forget nothing
late-allowed : (deal : List ℕ) → AllByRecursion (IsAllowed (Unit {0}) ⊥) (Blame ∷ Probe_next deal ∷ each_from 0 8 (λ k. Ask k))
late-allowed deal = (tt {0}, (tt {0}, all-each (IsAllowed (Unit {0}) ⊥) 0 8 (λ k. Ask k) (λ k. tt {0})))

tick-allowed : (deal : List ℕ) → AllByRecursion (IsAllowed ⊥ (Unit {0})) (tick_actions deal)
tick-allowed deal = (
  tt {0},
  all-append (IsAllowed ⊥ (Unit {0})) (replicate 256 Expire) (replicate 256 Forget ++ Blame ∷ Probe_next deal ∷ each_from 0 8 (λ k. Ask k)) (all-replicate (IsAllowed ⊥ (Unit {0})) 256 Expire (tt {0}))
      (all-append (IsAllowed ⊥ (Unit {0})) (replicate 256 Forget) (Blame ∷ Probe_next deal ∷ each_from 0 8 (λ k. Ask k)) (all-replicate (IsAllowed ⊥ (Unit {0})) 256 Forget (tt {0}))
      (tt {0}, (tt {0}, all-each (IsAllowed ⊥ (Unit {0})) 0 8 (λ k. Ask k) (λ k. tt {0})))),
)

module _ (x : ℕ) where
  is-held : (rules : Rules) (old : Row) (o : Option Row) → Goes_by (Unit {0}) ⊥ rules (Some old) o → o ≢ None
  is-held rules old None h = absurd h
  is-held rules old (Some r) h = λ e. cc

  tick-holds : (base : State) (log : List Change) (deal : List ℕ) (old : Row) → row_of (state base log).rows x ≡ Some old → old.update.kind ≡ Alive → row_of (state base (changes_by base log (tick_actions deal) ++ log)).rows x ≢ None
  tick-holds base log deal old held alive =
      early-actions x old alive base (Advance ∷ replicate 256 Expire) (replicate 256 Forget ++ Blame ∷ Probe_next deal ∷ each_from 0 8 (λ k. Ask k)) (tt {0}, all-replicate (IsEarly x old alive) 256 Expire (tt {0})) log held
      (λ later i. early-actions x old alive base (replicate 256 Forget) (Blame ∷ Probe_next deal ∷ each_from 0 8 (λ k. Ask k)) (all-replicate (IsEarly x old alive) 256 Forget (tt {0})) later i
      (λ last j. is-held (rules_of base.settings) old (row_of (state base (changes_by base last (Blame ∷ Probe_next deal ∷ each_from 0 8 (λ k. Ask k)) ++ last)).rows x)
      (subst (λ o. Goes_by (Unit {0}) ⊥ (rules_of base.settings) o (row_of (state base (changes_by base last (Blame ∷ Probe_next deal ∷ each_from 0 8 (λ k. Ask k)) ++ last)).rows x)) j
      (goes-actions (Unit {0}) ⊥ x (λ c g. g) base last (Blame ∷ Probe_next deal ∷ each_from 0 8 (λ k. Ask k)) (late-allowed deal)))))

  rises-judged : (base : State) (log : List Change) (j : Judged) (granted : ℕ) → RisesOrGoes (rules_of base.settings) (row_of (state base log).rows x) (row_of (state base (changes_by base log (actions_of j granted) ++ log)).rows x)
  rises-judged base log j granted = by_judgement j
    where
      other : (ms : List Action) → AllByRecursion (IsAllowed (Unit {0}) ⊥) ms → RisesOrGoes (rules_of base.settings) (row_of (state base log).rows x) (row_of (state base (changes_by base log ms ++ log)).rows x)
      other ms a = risen (rules_of base.settings) (row_of (state base log).rows x) (row_of (state base (changes_by base log ms ++ log)).rows x) (goes-actions (Unit {0}) ⊥ x (λ c g. g) base log ms a)

      all-told : (us : List Update) → AllByRecursion (λ (u : Update). IsAllowed (Unit {0}) ⊥ (Hear u)) us
      all-told [] = tt {0}
      all-told (u ∷ us) = (tt {0}, all-told us)

      by_judgement : (j : Judged) → RisesOrGoes (rules_of base.settings) (row_of (state base log).rows x) (row_of (state base (changes_by base log (actions_of j granted) ++ log)).rows x)
      by_judgement (judged.Note n) = other (actions_of (judged.Note n) granted) (tt {0}, tt {0})
      by_judgement (judged.Tick deal) =
          waned (rules_of base.settings) (row_of (state base log).rows x) (row_of (state base (changes_by base log (tick_actions deal) ++ log)).rows x)
          (goes-actions ⊥ (Unit {0}) x (λ c g. c) base log (tick_actions deal) (tick-allowed deal)) (λ old held alive. tick-holds base log deal old held alive)
      by_judgement (judged.Datagram p own) =
          other (actions_of (judged.Datagram p own) granted)
          (all-append (IsAllowed (Unit {0}) ⊥) (map (λ u. Hear u) p.updates.items) (Settle own granted ∷ Reply p ∷ []) (all-map (IsAllowed (Unit {0}) ⊥) (λ u. Hear u) p.updates.items (all-told p.updates.items)) (tt {0}, (tt {0}, tt {0})))
      by_judgement (judged.Join peer) = other (actions_of (judged.Join peer) granted) (tt {0}, tt {0})
      by_judgement judged.Leave = other (actions_of judged.Leave granted) (tt {0}, all-each (IsAllowed (Unit {0}) ⊥) 0 9 (λ i. Bye i) (λ i. tt {0}))
      by_judgement (judged.Members cursor) = other (actions_of (judged.Members cursor) granted) (tt {0}, tt {0})

  rises-event : (base : State) (steps : List Step) (e : Step) → RisesOrGoes (rules_of base.settings) (row_of (state_of base steps).rows x) (row_of (state_of base (steps ++ e ∷ [])).rows x)
  rises-event base steps e =
      subst (λ (log : List Change). RisesOrGoes (rules_of base.settings) (row_of (state_of base steps).rows x) (row_of (state base log).rows x)) (sym (log_after-snoc base [] steps e))
      (rises-judged base (log_of base steps) (judge (state_of base steps) e.event) e.granted)

-- Groups

pub at-changed : (f : Place → Place) (places : List Place) (k : ℕ) → place_at (change_at places k f) k ≡ option_map f (place_at places k)
at-changed f [] k = refl
at-changed f (p ∷ places) zero = refl
at-changed f (p ∷ places) (suc k) = at-changed f places k

pub at-unchanged : (f : Place → Place) (places : List Place) (k which : ℕ) → k ≢ which → place_at (change_at places k f) which ≡ place_at places which
at-unchanged f [] k which ne = refl
at-unchanged f (p ∷ places) zero zero ne = absurd (ne refl)
at-unchanged f (p ∷ places) zero (suc which) ne = refl
at-unchanged f (p ∷ places) (suc k) zero ne = refl
at-unchanged f (p ∷ places) (suc k) (suc which) ne = at-unchanged f places k which (λ e. ne (ap suc e))

-- a member after a move at which it does not begin anew
record GoesOnAs (p : Place) (x : ℕ) (next : Option Place) : Type 0 where
  place : Place
  found : next ≡ Some place
  settings : place.settings ≡ p.settings
  rises : RisesOrGoes (rules_of p.settings) (row_of (state_at p).rows x) (row_of (state_at place).rows x)

rises-same : (rules : Rules) (o : Option Row) → RisesOrGoes rules o o
rises-same rules o = risen rules o o (goes-same (Unit {0}) ⊥ rules o)

goes-on-as : (g : Group) (m : Move) (which x : ℕ) → IsNoRestart which m → (p : Place) → place_at g.places which ≡ Some p → GoesOnAs p x (place_at (after_move g m).places which)
goes-on-as g (Restarts k settings first) which x other p at =
    record { place = p; found = at-unchanged (λ q. new_place settings first) g.places k which other ∙ at; settings = refl; rises = rises-same (rules_of p.settings) (row_of (state_at p).rows x) }
goes-on-as g (Happens k event granted) which x other p at = by_place (k == which) refl
  where
    by_place : (b : Bool) → (k == which) ≡ b → GoesOnAs p x (place_at (change_at g.places k (with_event event granted)) which)
    by_place true e =
        let same : k ≡ which = eqb-true k which e in
        record {
          place = with_event event granted p;
          found = subst (λ n. place_at (change_at g.places n (with_event event granted)) which ≡ Some (with_event event granted p)) (sym same) (at-changed (with_event event granted) g.places which ∙ ap (option_map (with_event event granted)) at);
          settings = refl;
          rises = rises-event x (begun p) p.steps (record { event = event; granted = granted });
        }
    by_place false e =
        record { place = p; found = at-unchanged (with_event event granted) g.places k which (eqb-false k which e) ∙ at; settings = refl; rises = rises-same (rules_of p.settings) (row_of (state_at p).rows x) }

-- from one move to the next
pub rises-move : (g : Group) (m : Move) (which x : ℕ) → IsNoRestart which m → OfPlace (place_at g.places which) (λ p. RisesOrGoes (rules_of p.settings) (held_at g which x) (held_at (after_move g m) which x))
rises-move g m which x stays = at (place_at g.places which) refl
  where
    at : (o : Option Place) → place_at g.places which ≡ o → OfPlace o (λ p. RisesOrGoes (rules_of p.settings) (held_at g which x) (held_at (after_move g m) which x))
    at None e = tt {0}
    at (Some p) e =
        let next : GoesOnAs p x (place_at (after_move g m).places which) = goes-on-as g m which x stays p e in
        subst (λ o. RisesOrGoes (rules_of p.settings) (held_by x o) (held_at (after_move g m) which x)) (sym e)
        (subst (λ o. RisesOrGoes (rules_of p.settings) (row_of (state_at p).rows x) (held_by x o)) (sym next.found) next.rises)

stays-of : (rules : Rules) (a b : Option Row) → RisesOrGoes rules a b → IsSome b → Goes_by (Unit {0}) ⊥ rules a b
stays-of rules None None h s = tt {0}
stays-of rules None (Some r) h s = tt {0}
stays-of rules (Some r) None h s = absurd (false≢true s)
stays-of rules (Some r) (Some q) h s = h

stays-moves : (moves : List Move) (g : Group) (which x : ℕ) → HoldsOn which x g moves → (p : Place) → place_at g.places which ≡ Some p → Goes_by (Unit {0}) ⊥ (rules_of p.settings) (row_of (state_at p).rows x) (held_at (after_moves g moves) which x)
stays-moves [] g which x h p at = goes-is (Unit {0}) ⊥ (rules_of p.settings) (row_of (state_at p).rows x) (held_by x (place_at g.places which)) (ap (held_by x) at)
stays-moves (m ∷ moves) g which x h p at =
    let next : GoesOnAs p x (place_at (after_move g m).places which) = goes-on-as g m which x h.0 p at in
    let some : IsSome (row_of (state_at next.place).rows x) = subst (λ o. IsSome (held_by x o)) next.found h.1 in
    let rest : Goes_by (Unit {0}) ⊥ (rules_of next.place.settings) (row_of (state_at next.place).rows x) (held_at (after_moves (after_move g m) moves) which x) = stays-moves moves (after_move g m) which x h.2 next.place next.found in
    goes-then (Unit {0}) ⊥ (λ c g. g) (rules_of p.settings) (row_of (state_at p).rows x) (row_of (state_at next.place).rows x) (held_at (after_moves (after_move g m) moves) which x)
    (stays-of (rules_of p.settings) (row_of (state_at p).rows x) (row_of (state_at next.place).rows x) next.rises some)
    (subst (λ (s : Settings). Goes_by (Unit {0}) ⊥ (rules_of s) (row_of (state_at next.place).rows x) (held_at (after_moves (after_move g m) moves) which x)) next.settings rest)

-- through moves in which it does not begin anew and goes on holding something
pub rises-moves : (g : Group) (moves : List Move) (which x : ℕ) → HoldsOn which x g moves → OfPlace (place_at g.places which) (λ p. RisesOrGoes (rules_of p.settings) (held_at g which x) (held_at (after_moves g moves) which x))
rises-moves g moves which x h = at (place_at g.places which) refl
  where
    at : (o : Option Place) → place_at g.places which ≡ o → OfPlace o (λ p. RisesOrGoes (rules_of p.settings) (held_at g which x) (held_at (after_moves g moves) which x))
    at None e = tt {0}
    at (Some p) e =
        subst (λ o. RisesOrGoes (rules_of p.settings) (held_by x o) (held_at (after_moves g moves) which x)) (sym e)
        (risen (rules_of p.settings) (row_of (state_at p).rows x) (held_at (after_moves g moves) which x) (stays-moves moves g which x h p e))
