-- A tick, from its parts.
use Rattle.std.proofs.Common.{◌≡◌, ℕ, zero, suc, ◌+◌, ◌<◌, ◌%◌, ◌==◌, arith, Bool, true, false, cond, refl, sym, ◌∙◌, ap, List, [], ◌∷◌, ◌++◌, replicate, append-nil, append_assoc, Option, Some, None}
use Rattle.std.proofs.lemmas.Bool.{eqb-true, ne_eqb}
use Rattle.std.specs.List.{find, slice_get}
use Rattle.swim_rules.specs.declared.table.Row.{Row}
use Rattle.swim_rules.specs.Rows.{answer_to, is_kind, is_due, row_of}
use Rattle.swim_rules.specs.declared.table.Heard.{Heard as Hearing}
use Rattle.swim_rules.specs.declared.table.Heard.TheVariants.{Accepted}
use Rattle.swim_wire.specs.declared.update.Update.{Update}
use Rattle.swim_wire.specs.declared.update.UpdateKind.TheVariants.{Alive, Suspect, Confirm}
use Rattle.swim_member.specs.declared.settings.Settings.{Settings}
use Rattle.swim_member.specs.declared.state.Probe.{Probe}
use Rattle.swim_member.specs.Checks.{rules_of}
use Rattle.swim_member.specs.State.{Change, State}
use Rattle.swim_member.specs.Events.{Action, Advance, Expire, Forget, Blame, Probe_next, Ask, Bye, perform, outs, notes, each_from, tick_actions}
use Rattle.swim_member.specs.Expiry.{expire_first, forget_first}
use Rattle.swim_member.specs.Probe.{blame, suspect_target, suspect_of, ask, ask_one, helpers_about, is_at}
use Rattle.swim_member.specs.Turn.{look}
use Rattle.swim_member.proofs.Turning.{notes-look, time-look}
use Rattle.swim_member.specs.Member.{is_eligible_name, eligible}
use Rattle.swim_member.specs.Leave.{bye}
use Rattle.swim_member.specs.Hearing.{hear_other, heard_with}
use Rattle.swim_member.specs.Machinery.Steps.{apply_all, after, notes_by, outs_by}
use Rattle.swim_member.proofs.Actions.{after-append, notes_by-append, outs_by-append, settings-apply_all, settings-after}
use Rattle.swim_member.proofs.Received.{outs-heard_with}
use Rattle.swim_member.proofs.Asking.{asked_probe, asks-none-state, asks-none-outs}
use Rattle.std.proofs.Common.{nat_le, not, ◌&&◌}

-- whatever is read off what the first row that is due makes of itself, there is none of it
none_by : {T : Type 0} (read : List Change → List T) (first : Option Row → List Change) (o : Option Row) → read (first None) ≡ [] → ((r : Row) → read (first (Some r)) ≡ []) → read (first o) ≡ []
none_by read first None none some = none
none_by read first (Some r) none some = some r

outs-expire : (s : State) → outs (perform s Expire) ≡ []
outs-expire s = none_by outs expire_first (find (is_due Suspect s.settings.suspect s.time) s.rows) refl (λ r. refl)

notes-expire : (s : State) → notes (perform s Expire) ≡ []
notes-expire s = none_by notes expire_first (find (is_due Suspect s.settings.suspect s.time) s.rows) refl (λ r. refl)

outs-forget : (s : State) → outs (perform s Forget) ≡ []
outs-forget s = none_by outs forget_first (find (is_due Confirm s.settings.forget s.time) s.rows) refl (λ r. refl)

notes-forget : (s : State) → notes (perform s Forget) ≡ []
notes-forget s = none_by notes forget_first (find (is_due Confirm s.settings.forget s.time) s.rows) refl (λ r. refl)

-- what holds of nothing and of whatever is heard of another member holds of what is blamed
blamed : (P : List Change → Type 0) (s : State) → P [] → ((u : Update) → P (hear_other s u)) → (o : Option Probe) → P (blame s o)
blamed P s none heard None = none
blamed P s none heard (Some q) = of_answer q.answered
  where
    of_kind : (r : Row) (b : Bool) → P (cond b (hear_other s (suspect_of r)) [])
    of_kind r true = heard (suspect_of r)
    of_kind r false = none

    of_row : (o : Option Row) → P (suspect_target s o)
    of_row None = none
    of_row (Some r) = of_kind r (is_kind Alive r.update.kind)

    of_answer : (b : Bool) → P (cond b [] (suspect_target s (row_of s.rows q.target)))
    of_answer true = none
    of_answer false = of_row (row_of s.rows q.target)

outs-blame : (s : State) → outs (perform s Blame) ≡ []
outs-blame s = at (is_at s 0)
  where
    at : (b : Bool) → outs (cond b (blame s s.probe) []) ≡ []
    at false = refl
    at true = blamed (λ happened. outs happened ≡ []) s refl (λ u. outs-heard_with (answer_to (rules_of s.settings) s.rows u) u) s.probe

pub time-blamed : (s : State) → (apply_all (blame s s.probe) s).time ≡ s.time
time-blamed s = blamed (λ happened. (apply_all happened s).time ≡ s.time) s refl (λ u. heard (answer_to (rules_of s.settings) s.rows u) u) s.probe
  where
    heard : (h : Hearing) (u : Update) → (apply_all (heard_with h u) s).time ≡ s.time
    heard Accepted u = refl
    heard _ u = refl

notes-probe_next : (s : State) (deal : List ℕ) → notes (perform s (Probe_next deal)) ≡ []
notes-probe_next s deal = at (is_at s 0)
  where
    at : (b : Bool) → notes (cond b (look s deal) []) ≡ []
    at false = refl
    at true = notes-look s deal

notes-ask : (s : State) (k : ℕ) → notes (perform s (Ask k)) ≡ []
notes-ask s k = at (is_at s s.settings.direct) s.probe
  where
    of_helper : (q : Probe) (o : Option ℕ) → notes (ask_one s q o) ≡ []
    of_helper q None = refl
    of_helper q (Some x) = refl

    of_test : (q : Probe) (b : Bool) → notes (cond b (ask_one s q (slice_get (helpers_about s q.target) k)) []) ≡ []
    of_test q true = of_helper q (slice_get (helpers_about s q.target) k)
    of_test q false = refl

    at : (b : Bool) (o : Option Probe) → notes (cond b (ask s o k) []) ≡ []
    at false o = refl
    at true None = refl
    at true (Some q) = of_test q (not q.answered && is_eligible_name s q.target)

pub notes-bye : (s : State) (k : ℕ) → notes (perform s (Bye k)) ≡ []
notes-bye s k = at (nat_le k s.settings.helpers) (slice_get (eligible s) k)
  where
    at : (b : Bool) (o : Option Row) → notes (cond b (bye s o) []) ≡ []
    at false o = refl
    at true None = refl
    at true (Some r) = refl

outs-replicate : (m : Action) → ((s : State) → outs (perform s m) ≡ []) → (n : ℕ) (s : State) → outs_by s (replicate n m) ≡ []
outs-replicate m h zero s = refl
outs-replicate m h (suc n) s = ap (λ o. o ++ outs_by (apply_all (perform s m) s) (replicate n m)) (h s) ∙ outs-replicate m h n (apply_all (perform s m) s)

notes-replicate : (m : Action) → ((s : State) → notes (perform s m) ≡ []) → (n : ℕ) (s : State) → notes_by s (replicate n m) ≡ []
notes-replicate m h zero s = refl
notes-replicate m h (suc n) s = ap (λ o. o ++ notes_by (apply_all (perform s m) s) (replicate n m)) (h s) ∙ notes-replicate m h n (apply_all (perform s m) s)

pub notes-each : (f : ℕ → Action) → ((s : State) (k : ℕ) → notes (perform s (f k)) ≡ []) → (n k : ℕ) (s : State) → notes_by s (each_from k n f) ≡ []
notes-each f h zero k s = refl
notes-each f h (suc n) k s =
    ap (λ o. o ++ notes_by (apply_all (perform s (f k)) s) (each_from (k + 1) n f)) (h s k) ∙ notes-each f h n (k + 1) (apply_all (perform s (f k)) s)

-- moves that send nothing, and then others
outs-then : (s t : State) (ms tail : List Action) → t ≡ after s ms → outs_by s ms ≡ [] → outs_by t tail ≡ outs_by s (ms ++ tail)
outs-then s t ms tail e z =
    ap (λ u. outs_by u tail) e ∙ ap (λ o. o ++ outs_by (after s ms) tail) (sym z) ∙ sym (outs_by-append s ms tail)

notes-then : (s t : State) (ms tail : List Action) → t ≡ after s ms → notes_by s ms ≡ [] → notes_by t tail ≡ notes_by s (ms ++ tail)
notes-then s t ms tail e z =
    ap (λ u. notes_by u tail) e ∙ ap (λ o. o ++ notes_by (after s ms) tail) (sym z) ∙ sym (notes_by-append s ms tail)

after-then : (s t : State) (ms tail : List Action) → t ≡ after s ms → after t tail ≡ after s (ms ++ tail)
after-then s t ms tail e = ap (λ u. after u tail) e ∙ sym (after-append s ms tail)

-- each tick begins with the time and the moves as and bs
pub record TickBegun (s0 s1 s2 s3 : State) (as_due bs_due : List Action) : Type 0 where
  pub advanced : s1 ≡ apply_all (perform s0 Advance) s0
  pub expired : s2 ≡ after s1 as_due
  pub forgotten : s3 ≡ after s2 bs_due

-- and goes on with the rest
pub record TickedBy (s0 s1 s2 s3 s4 s5 s6 : State) (as_due bs_due asks : List Action) (deal : List ℕ) : Type 0 where
  pub begun : TickBegun s0 s1 s2 s3 as_due bs_due
  pub blamed : s4 ≡ apply_all (perform s3 Blame) s3
  pub probed : s5 ≡ apply_all (perform s4 (Probe_next deal)) s4
  pub asked : s6 ≡ after s5 asks

parts-state : (s0 s1 s2 s3 s4 s5 s6 : State) (as_due bs_due asks : List Action) (deal : List ℕ) → TickedBy s0 s1 s2 s3 s4 s5 s6 as_due bs_due asks deal → s6 ≡ after s0 (Advance ∷ as_due ++ bs_due ++ Blame ∷ Probe_next deal ∷ asks)
parts-state s0 s1 s2 s3 s4 s5 s6 as_due bs_due asks deal h =
    h.asked
    ∙ after-then s4 s5 (Probe_next deal ∷ []) asks h.probed
    ∙ after-then s3 s4 (Blame ∷ []) (Probe_next deal ∷ asks) h.blamed
    ∙ after-then s2 s3 bs_due (Blame ∷ Probe_next deal ∷ asks) h.begun.forgotten
    ∙ after-then s1 s2 as_due (bs_due ++ (Blame ∷ Probe_next deal ∷ asks)) h.begun.expired
    ∙ ap (λ ms. after s1 ms) (sym (append_assoc as_due bs_due (Blame ∷ Probe_next deal ∷ asks)))
    ∙ after-then s0 s1 (Advance ∷ []) (as_due ++ bs_due ++ Blame ∷ Probe_next deal ∷ asks) h.begun.advanced

parts-outs : (s0 s1 s2 s3 s4 s5 s6 : State) (as_due bs_due asks : List Action) (deal : List ℕ) → TickedBy s0 s1 s2 s3 s4 s5 s6 as_due bs_due asks deal → outs_by s1 as_due ≡ [] → outs_by s2 bs_due ≡ [] → outs (perform s4 (Probe_next deal)) ++ outs_by s5 asks ≡ outs_by s0 (Advance ∷ as_due ++ bs_due ++ Blame ∷ Probe_next deal ∷ asks)
parts-outs s0 s1 s2 s3 s4 s5 s6 as_due bs_due asks deal h za zb =
    ap (λ u. outs (perform s4 (Probe_next deal)) ++ outs_by u asks) h.probed
    ∙ outs-then s3 s4 (Blame ∷ []) (Probe_next deal ∷ asks) h.blamed (ap (λ o. o ++ []) (outs-blame s3))
    ∙ outs-then s2 s3 bs_due (Blame ∷ Probe_next deal ∷ asks) h.begun.forgotten zb
    ∙ outs-then s1 s2 as_due (bs_due ++ (Blame ∷ Probe_next deal ∷ asks)) h.begun.expired za
    ∙ ap (λ ms. outs_by s1 ms) (sym (append_assoc as_due bs_due (Blame ∷ Probe_next deal ∷ asks)))
    ∙ outs-then s0 s1 (Advance ∷ []) (as_due ++ bs_due ++ Blame ∷ Probe_next deal ∷ asks) h.begun.advanced refl

parts-notes : (s0 s1 s2 s3 s4 s5 s6 : State) (as_due bs_due asks : List Action) (deal : List ℕ) → TickedBy s0 s1 s2 s3 s4 s5 s6 as_due bs_due asks deal → notes_by s1 as_due ≡ [] → notes_by s2 bs_due ≡ [] → notes_by s5 asks ≡ [] → notes (perform s3 Blame) ≡ notes_by s0 (Advance ∷ as_due ++ bs_due ++ Blame ∷ Probe_next deal ∷ asks)
parts-notes s0 s1 s2 s3 s4 s5 s6 as_due bs_due asks deal h za zb zc =
    sym (append-nil (notes (perform s3 Blame)))
    ∙ ap (λ n. notes (perform s3 Blame) ++ n) (sym zc ∙ notes-then s4 s5 (Probe_next deal ∷ []) asks h.probed (ap (λ n. n ++ []) (notes-probe_next s4 deal)))
    ∙ ap (λ u. notes (perform s3 Blame) ++ notes_by u (Probe_next deal ∷ asks)) h.blamed
    ∙ notes-then s2 s3 bs_due (Blame ∷ Probe_next deal ∷ asks) h.begun.forgotten zb
    ∙ notes-then s1 s2 as_due (bs_due ++ (Blame ∷ Probe_next deal ∷ asks)) h.begun.expired za
    ∙ ap (λ ms. notes_by s1 ms) (sym (append_assoc as_due bs_due (Blame ∷ Probe_next deal ∷ asks)))
    ∙ notes-then s0 s1 (Advance ∷ []) (as_due ++ bs_due ++ Blame ∷ Probe_next deal ∷ asks) h.begun.advanced refl

abbrev pub Ticked : State → State → State → State → State → State → State → List ℕ → Type 0
Ticked s0 s1 s2 s3 s4 s5 s6 deal = TickedBy s0 s1 s2 s3 s4 s5 s6 (replicate 256 Expire) (replicate 256 Forget) (each_from 0 8 (λ k. Ask k)) deal

pub ticked-state : (s0 s1 s2 s3 s4 s5 s6 : State) (deal : List ℕ) → Ticked s0 s1 s2 s3 s4 s5 s6 deal → s6 ≡ after s0 (tick_actions deal)
ticked-state s0 s1 s2 s3 s4 s5 s6 deal h = parts-state s0 s1 s2 s3 s4 s5 s6 (replicate 256 Expire) (replicate 256 Forget) (each_from 0 8 (λ k. Ask k)) deal h

pub ticked-outs : (s0 s1 s2 s3 s4 s5 s6 : State) (deal : List ℕ) → Ticked s0 s1 s2 s3 s4 s5 s6 deal → outs (perform s4 (Probe_next deal)) ++ outs_by s5 (each_from 0 8 (λ k. Ask k)) ≡ outs_by s0 (tick_actions deal)
ticked-outs s0 s1 s2 s3 s4 s5 s6 deal h =
    parts-outs s0 s1 s2 s3 s4 s5 s6 (replicate 256 Expire) (replicate 256 Forget) (each_from 0 8 (λ k. Ask k)) deal h (outs-replicate Expire outs-expire 256 s1) (outs-replicate Forget outs-forget 256 s2)

pub ticked-notes : (s0 s1 s2 s3 s4 s5 s6 : State) (deal : List ℕ) → Ticked s0 s1 s2 s3 s4 s5 s6 deal → notes (perform s3 Blame) ≡ notes_by s0 (tick_actions deal)
ticked-notes s0 s1 s2 s3 s4 s5 s6 deal h =
    parts-notes s0 s1 s2 s3 s4 s5 s6 (replicate 256 Expire) (replicate 256 Forget) (each_from 0 8 (λ k. Ask k)) deal h (notes-replicate Expire notes-expire 256 s1) (notes-replicate Forget notes-forget 256 s2) (notes-each (λ k. Ask k) notes-ask 8 0 s5)

pub ticked-settings : (s0 s1 s2 s3 s4 s5 s6 : State) (deal : List ℕ) → Ticked s0 s1 s2 s3 s4 s5 s6 deal → s5.settings ≡ s0.settings
ticked-settings s0 s1 s2 s3 s4 s5 s6 deal h =
    ap (λ (s : State). s.settings) h.probed ∙ settings-apply_all (perform s4 (Probe_next deal)) s4
    ∙ ap (λ (s : State). s.settings) h.blamed ∙ settings-apply_all (perform s3 Blame) s3
    ∙ ap (λ (s : State). s.settings) h.begun.forgotten ∙ settings-after s2 (replicate 256 Forget)
    ∙ ap (λ (s : State). s.settings) h.begun.expired ∙ settings-after s1 (replicate 256 Expire)
    ∙ ap (λ (s : State). s.settings) h.begun.advanced ∙ settings-apply_all (perform s0 Advance) s0

-- the moments of a tick

at-same : (s t : State) (k : ℕ) → t.time ≡ s.time → t.settings ≡ s.settings → is_at t k ≡ is_at s k
at-same s t k time settings = ap (λ n. n % t.settings.period == k) time ∙ ap (λ (x : Settings). s.time % x.period == k) settings

-- a tick at the end of a period: one probe ends and the next one begins
pub record TickedAtEnd (s0 s1 s2 s t u : State) (deal : List ℕ) : Type 0 where
  pub begun : TickBegun s0 s1 s2 s (replicate 256 Expire) (replicate 256 Forget)
  pub now : is_at s 0 ≡ true
  pub later : 0 < s.settings.direct
  pub blames : t ≡ apply_all (blame s s.probe) s
  pub looks : u ≡ apply_all (look t deal) t

end-later : (s0 s1 s2 s t u : State) (deal : List ℕ) → TickedAtEnd s0 s1 s2 s t u deal → (is_at t 0 ≡ true) × (asked_probe u ≡ None)
end-later s0 s1 s2 s t u deal h =
    let time : t.time ≡ s.time = ap (λ (x : State). x.time) h.blames ∙ time-blamed s in
    let settings : t.settings ≡ s.settings = ap (λ (x : State). x.settings) h.blames ∙ settings-apply_all (blame s s.probe) s in
    let still : u.time ≡ s.time = ap (λ (x : State). x.time) h.looks ∙ time-look t deal ∙ time in
    let same : u.settings ≡ s.settings = ap (λ (x : State). x.settings) h.looks ∙ settings-apply_all (look t deal) t ∙ settings in
    let begins : s.time % s.settings.period ≡ 0 = eqb-true (s.time % s.settings.period) 0 h.now in
    let later : 0 < s.settings.direct = h.later in
    let none : is_at u u.settings.direct ≡ false =
    at-same s u u.settings.direct still same ∙ ap (λ (x : Settings). is_at s x.direct) same
    ∙ ne_eqb (s.time % s.settings.period) s.settings.direct (λ e. omega arith) in
    (at-same s t 0 time settings ∙ h.now, rw none refl)

pub end-ticked : (s0 s1 s2 s t u : State) (deal : List ℕ) → TickedAtEnd s0 s1 s2 s t u deal → Ticked s0 s1 s2 s t u u deal
end-ticked s0 s1 s2 s t u deal h =
    let then = end-later s0 s1 s2 s t u deal h in
    record {
      begun = h.begun;
      blamed = rw h.now h.blames;
      probed = rw then.0 h.looks;
      asked = sym (asks-none-state 8 0 u then.1);
    }

pub end-outs : (s0 s1 s2 s t u : State) (deal : List ℕ) → TickedAtEnd s0 s1 s2 s t u deal → outs (look t deal) ≡ outs_by s0 (tick_actions deal)
end-outs s0 s1 s2 s t u deal h =
    let then = end-later s0 s1 s2 s t u deal h in
    ap (λ b. outs (cond b (look t deal) [])) (sym then.0)
    ∙ sym (append-nil (outs (perform t (Probe_next deal))))
    ∙ ap (λ os. outs (perform t (Probe_next deal)) ++ os) (sym (asks-none-outs 8 0 u then.1))
    ∙ ticked-outs s0 s1 s2 s t u u deal (end-ticked s0 s1 s2 s t u deal h)

pub end-notes : (s0 s1 s2 s t u : State) (deal : List ℕ) → TickedAtEnd s0 s1 s2 s t u deal → notes (blame s s.probe) ≡ notes_by s0 (tick_actions deal)
end-notes s0 s1 s2 s t u deal h =
    ap (λ b. notes (cond b (blame s s.probe) [])) (sym h.now) ∙ ticked-notes s0 s1 s2 s t u u deal (end-ticked s0 s1 s2 s t u deal h)

-- a tick within a period: no probe ends and none begins
pub record TickedWithin (s0 s1 s2 s t : State) : Type 0 where
  pub begun : TickBegun s0 s1 s2 s (replicate 256 Expire) (replicate 256 Forget)
  pub within : is_at s 0 ≡ false
  pub asked : t ≡ after s (each_from 0 8 (λ k. Ask k))

pub within-ticked : (s0 s1 s2 s t : State) (deal : List ℕ) → TickedWithin s0 s1 s2 s t → Ticked s0 s1 s2 s s s t deal
within-ticked s0 s1 s2 s t deal h = record {
  begun = h.begun;
  blamed = rw h.within refl;
  probed = rw h.within refl;
  asked = h.asked;
}

pub within-outs : (s0 s1 s2 s t : State) (deal : List ℕ) → TickedWithin s0 s1 s2 s t → outs_by s (each_from 0 8 (λ k. Ask k)) ≡ outs_by s0 (tick_actions deal)
within-outs s0 s1 s2 s t deal h =
    ap (λ b. outs (cond b (look s deal) []) ++ outs_by s (each_from 0 8 (λ k. Ask k))) (sym h.within) ∙ ticked-outs s0 s1 s2 s s s t deal (within-ticked s0 s1 s2 s t deal h)

pub within-notes : (s0 s1 s2 s t : State) (deal : List ℕ) → TickedWithin s0 s1 s2 s t → [] ≡ notes_by s0 (tick_actions deal)
within-notes s0 s1 s2 s t deal h =
    ap (λ b. notes (cond b (blame s s.probe) [])) (sym h.within) ∙ ticked-notes s0 s1 s2 s s s t deal (within-ticked s0 s1 s2 s t deal h)
