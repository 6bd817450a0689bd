-- A member has at most `ROWS_MAX` rows, whatever happens.
use Rattle.std.proofs.Common.{◌≡◌, ◌≢◌, ℕ, ◌+◌, ◌<◌, ◌≤◌, ◌==◌, Bool, true, false, cond, nat_lt, refl, sym, ◌∙◌, subst, inl, inr, ◌⊎◌, List, [], ◌∷◌, ◌++◌, append_assoc, length, Option, Some, None, arith}
use Rattle.std.specs.List.{find}
use Rattle.std.proofs.lemmas.Bool.{ltb-true, ltb-false, eqb-true, eqb-false}
use Rattle.swim_wire.specs.declared.rules.Rules.{Rules}
use Rattle.swim_wire.specs.declared.update.Update.{Update}
use Rattle.swim_wire.specs.declared.update.UpdateKind.{UpdateKind}
use Rattle.swim_wire.specs.declared.update.UpdateKind.TheVariants.{Alive, Suspect, Confirm}
use Rattle.swim_rules.specs.declared.table.Row.{Row}
use Rattle.swim_rules.specs.declared.table.Heard.{Heard as Hearing}
use Rattle.swim_rules.specs.declared.table.Heard.TheVariants as heard
use Rattle.swim_rules.specs.Rules.{overrides}
use Rattle.swim_rules.specs.Rows.{AreInOrder, row_of, put_row, remove_row, heard_row, heard_as, heard_new, rows_after, hear_rows, answer_to, is_kind, is_due, confirm_of}
use Rattle.swim_rules.proofs.Tables.{row_of-below, order-above}
use Rattle.swim_rules.proofs.Told.{order-rows, hear_rows-entered}
use Rattle.swim_rules.proofs.Changes.{found_here}
use Rattle.swim_member.specs.declared.own_number.Suspicion.{Suspicion}
use Rattle.swim_member.specs.declared.own_number.Suspicion.TheVariants as suspicion
use Rattle.swim_member.specs.declared.state.Probe.{Probe}
use Rattle.swim_member.specs.Checks.{rules_of}
use Rattle.swim_member.specs.State.{State, Change, Heard, Forgot}
use Rattle.swim_member.specs.Readings.{state, told_to_table}
use Rattle.swim_member.specs.Hearing.{hear_other, heard_with}
use Rattle.swim_member.specs.OwnNumber.{hear_own, note_of, suspicion_of}
use Rattle.swim_member.specs.Expiry.{expire_first, forget_first}
use Rattle.swim_member.specs.Probe.{is_at, blame, suspect_target, suspect_of}
use Rattle.swim_member.specs.Events.{Action, Hear, Settle, Reply, Advance, Expire, Forget, Blame, Probe_next, Ask, Depart, Bye, Join_peer, Show, Take, perform, changes_by}
use Rattle.swim_member.specs.Machinery.Steps.{apply_all, changes_from, rows_heard}
use Rattle.swim_member.proofs.Logs.{state-append, news-news_from}
use Rattle.swim_member.proofs.Showing.{Lacks, IsQuiet, Tells, perform-no, settled-other}

-- Rows

put-most : (rows : List Row) (r : Row) → length (put_row rows r) ≤ length rows + 1
put-most [] r = omega arith
put-most (s ∷ rows) r = at (nat_lt s.update.who r.update.who) (s.update.who == r.update.who) (put-most rows r)
  where
    at : (a b : Bool) → length (put_row rows r) ≤ length rows + 1 → length (cond a (s ∷ put_row rows r) (cond b (r ∷ rows) (r ∷ s ∷ rows))) ≤ length (s ∷ rows) + 1
    at true b l = omega arith
    at false true l = omega arith
    at false false l = omega arith

-- a row takes the place of another
put-known : (rows : List Row) (r t : Row) → AreInOrder rows → row_of rows r.update.who ≡ Some t → length (put_row rows r) ≤ length rows
put-known [] r t h e = absurd (cc)
put-known (s ∷ rows) r t h e = at (nat_lt s.update.who r.update.who) (s.update.who == r.update.who) refl refl e (λ k. put-known rows r t (order-above s.update.who rows h) k)
  where
    at : (a b : Bool) → nat_lt s.update.who r.update.who ≡ a → (s.update.who == r.update.who) ≡ b → cond b (Some s) (row_of rows r.update.who) ≡ Some t → (row_of rows r.update.who ≡ Some t → length (put_row rows r) ≤ length rows) → length (cond a (s ∷ put_row rows r) (cond b (r ∷ rows) (r ∷ s ∷ rows))) ≤ length (s ∷ rows)
    at true true f g k i = let below : s.update.who < r.update.who = ltb-true s.update.who r.update.who f in let same : s.update.who ≡ r.update.who = eqb-true s.update.who r.update.who g in absurd (omega arith)
    at true false f g k i = let l : length (put_row rows r) ≤ length rows = i k in omega arith
    at false true f g k i = omega arith
    at false false f g k i =
        let above : r.update.who ≤ s.update.who = ltb-false s.update.who r.update.who f in
        absurd (let none : None ≡ Some t = sym (row_of-below s.update.who r.update.who rows above h) ∙ k in cc)

heard-known : (rules : Rules) (rows : List Row) (r t : Row) → AreInOrder rows → row_of rows r.update.who ≡ Some t → length (heard_row rules (row_of rows r.update.who) rows r) ≤ length rows
heard-known rules rows r t h e = rw e (at (overrides rules r.update t.update))
  where
    at : (b : Bool) → length (cond b (put_row rows r) rows) ≤ length rows
    at true = put-known rows r t h e
    at false = omega arith

-- a table that is full takes no newcomer
hear-most : (rules : Rules) (rows : List Row) (u : Update) (now : ℕ) → AreInOrder rows → length rows ≤ 256 → length (hear_rows rules rows u now) ≤ 256
hear-most rules rows u now h l = at (row_of rows u.who) refl (length rows == 256) refl
  where
    by_over : (t : Row) → row_of rows u.who ≡ Some t → (c : Bool) → length (rows_after (cond c heard.Accepted heard.Kept) rows (record { update = u; since = now })) ≤ 256
    by_over t e true = let k : length (put_row rows (record { update = u; since = now })) ≤ length rows = put-known rows (record { update = u; since = now }) t h e in omega arith
    by_over t e false = l

    added : (b : Bool) → (length rows == 256) ≡ b → length (rows_after (cond b heard.Full heard.Accepted) rows (record { update = u; since = now })) ≤ 256
    added true f = l
    added false f =
        let k : length (put_row rows (record { update = u; since = now })) ≤ length rows + 1 = put-most rows (record { update = u; since = now }) in
        let n : length rows ≢ 256 = eqb-false (length rows) 256 f in
        omega (arith, k, n, l)

    by_kind : (kind : UpdateKind) (b : Bool) → (length rows == 256) ≡ b → length (rows_after (heard_new kind b) rows (record { update = u; since = now })) ≤ 256
    by_kind Alive b f = added b f
    by_kind Suspect b f = added b f
    by_kind Confirm b f = l

    at : (o : Option Row) → row_of rows u.who ≡ o → (b : Bool) → (length rows == 256) ≡ b → length (rows_after (heard_as rules o b u) rows (record { update = u; since = now })) ≤ 256
    at (Some t) e b f = by_over t e (overrides rules u t.update)
    at None e b f = by_kind u.kind b f

remove-most : (rows : List Row) (x : ℕ) → length (remove_row rows x) ≤ length rows
remove-most [] x = omega arith
remove-most (s ∷ rows) x = at (s.update.who == x) (remove-most rows x)
  where
    at : (b : Bool) → length (remove_row rows x) ≤ length rows → length (cond b rows (s ∷ remove_row rows x)) ≤ length (s ∷ rows)
    at true l = omega arith
    at false l = omega arith

-- Actions

-- the rows stay where none is told
pub same_rows : (fs : List Change) (s : State) → Lacks Tells fs → (apply_all fs s).rows ≡ s.rows
same_rows [] s a = refl
same_rows (Heard u ∷ fs) s a = absurd (a.0 refl)
same_rows (Forgot x ∷ fs) s a = absurd (a.0 refl)
same_rows (_ ∷ fs) s a = same_rows fs s a.1

few-other : (s : State) (u : Update) → AreInOrder s.rows → length s.rows ≤ 256 → length (apply_all (hear_other s u) s).rows ≤ 256
few-other s u h l = at (answer_to (rules_of s.settings) s.rows u) refl
  where
    entered : (answer_to (rules_of s.settings) s.rows u ≡ heard.Accepted) ⊎ (answer_to (rules_of s.settings) s.rows u ≡ heard.Kept) → length (rows_heard s u) ≤ 256
    entered e = rw (hear_rows-entered (rules_of s.settings) s.rows u s.time e) at (hear-most (rules_of s.settings) s.rows u s.time h l)

    at : (a : Hearing) → answer_to (rules_of s.settings) s.rows u ≡ a → length (apply_all (heard_with a u) s).rows ≤ 256
    at heard.Accepted e = entered (inl e)
    at heard.Kept e = entered (inr e)
    at heard.Unknown e = l
    at heard.Full e = l

few-perform : (s : State) (m : Action) → AreInOrder s.rows → length s.rows ≤ 256 → length (apply_all (perform s m) s).rows ≤ 256
few-perform s m h l = by_action m
  where
    other : (m : Action) → IsQuiet Tells m → length (apply_all (perform s m) s).rows ≤ 256
    other m quiet = rw (same_rows (perform s m) s (perform-no Tells s m quiet)) l

    noted : (x : Suspicion) → length (apply_all (note_of x) s).rows ≤ 256
    noted suspicion.Passed = l
    noted _ = l

    by_own : (u : Update) (b : Bool) → length (apply_all (cond b (hear_own (rules_of s.settings) s.number u) (hear_other s u)) s).rows ≤ 256
    by_own u true = noted (suspicion_of (rules_of s.settings) s.number u)
    by_own u false = few-other s u h l

    expired : (o : Option Row) → find (is_due Suspect s.settings.suspect s.time) s.rows ≡ o → length (apply_all (expire_first o) s).rows ≤ 256
    expired None e = l
    expired (Some r) e =
        let known : row_of s.rows r.update.who ≡ Some r = found_here (is_due Suspect s.settings.suspect s.time) s.rows r h e in
        let few : length (rows_heard s (confirm_of r)) ≤ length s.rows = heard-known (rules_of s.settings) s.rows (record { update = confirm_of r; since = s.time }) r h known in
        omega (arith, few, l)

    forgotten : (o : Option Row) → length (apply_all (forget_first o) s).rows ≤ 256
    forgotten None = l
    forgotten (Some r) = let few : length (remove_row s.rows r.update.who) ≤ length s.rows = remove-most s.rows r.update.who in omega (arith, few, l)

    by_kind : (r : Row) (b : Bool) → length (apply_all (cond b (hear_other s (suspect_of r)) []) s).rows ≤ 256
    by_kind r true = few-other s (suspect_of r) h l
    by_kind r false = l

    suspected : (o : Option Row) → length (apply_all (suspect_target s o) s).rows ≤ 256
    suspected None = l
    suspected (Some r) = by_kind r (is_kind Alive r.update.kind)

    by_answer : (q : Probe) (b : Bool) → length (apply_all (cond b [] (suspect_target s (row_of s.rows q.target))) s).rows ≤ 256
    by_answer q true = l
    by_answer q false = suspected (row_of s.rows q.target)

    blamed : (o : Option Probe) → length (apply_all (blame s o) s).rows ≤ 256
    blamed None = l
    blamed (Some q) = by_answer q q.answered

    by_time : (b : Bool) → length (apply_all (cond b (blame s s.probe) []) s).rows ≤ 256
    by_time true = blamed s.probe
    by_time false = l

    by_action : (m : Action) → length (apply_all (perform s m) s).rows ≤ 256
    by_action (Hear u) = by_own u (u.who == s.settings.me)
    by_action (Settle own granted) = other (Settle own granted) (settled-other Tells (λ e. cc) (λ e. cc) own)
    by_action (Reply p) = other (Reply p) (λ e. cc)
    by_action Advance = l
    by_action Expire = expired (find (is_due Suspect s.settings.suspect s.time) s.rows) refl
    by_action Forget = forgotten (find (is_due Confirm s.settings.forget s.time) s.rows)
    by_action Blame = by_time (is_at s 0)
    by_action (Probe_next deal) = other (Probe_next deal) ((λ e. cc), (λ e. cc))
    by_action (Ask k) = other (Ask k) tt
    by_action Depart = other Depart tt
    by_action (Bye k) = other (Bye k) (λ e. cc)
    by_action (Join_peer peer) = other (Join_peer peer) tt
    by_action (Show cursor) = other (Show cursor) (λ e. cc)
    by_action (Take n) = l

-- the rows that are read off a log are in order
pub order-read : (base : State) (log : List Change) → AreInOrder (state base log).rows
order-read base log = order-rows (rules_of base.settings) base.rows (told_to_table base log)

-- after any actions there are still at most so many
few-by : (base : State) (log : List Change) (ms : List Action) → length (state base log).rows ≤ 256 → length (state base (changes_by base log ms ++ log)).rows ≤ 256
few-by base log [] l = l
few-by base log (m ∷ ms) l =
    let done : List Change = perform (state base log) m in
    let one : length (state base (done ++ log)).rows ≤ 256 =
    subst (λ (s : State). length s.rows ≤ 256) (sym (state-append base done log)) (few-perform (state base log) m (order-read base log) l) in
    subst (λ (fs : List Change). length (state base fs).rows ≤ 256) (sym (append_assoc (changes_by base (done ++ log) ms) done log)) (few-by base (done ++ log) ms one)

pub few-from : (base : State) (log : List Change) (ms : List Action) → length (state base log).rows ≤ 256 → length (apply_all (changes_from (state base log) ms) (state base log)).rows ≤ 256
few-from base log ms l =
    subst (λ (s : State). length s.rows ≤ 256) (state-append base (changes_from (state base log) ms) log)
    (subst (λ (fs : List Change). length (state base (fs ++ log)).rows ≤ 256) (news-news_from base log ms) (few-by base log ms l))
