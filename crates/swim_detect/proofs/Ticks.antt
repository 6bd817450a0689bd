-- A tick that counts: x is eligible no longer, or has a tick less.
use Rattle.std.proofs.Common.{◌≡◌, ◌≢◌, ℕ, zero, suc, ◌+◌, ◌-◌, ◌*◌, ◌%◌, ◌<◌, ◌≤◌, ◌==◌, max, nat_le, Bool, true, false, cond, ◌&&◌, not, refl, sym, ◌∙◌, ap, subst, inl, inr, ◌⊎◌, List, [], ◌∷◌, ◌++◌, append_assoc, replicate, length, Option, Some, None, arith}
use Rattle.std.specs.List.{filter, slice_get, AllByRecursion}
use Rattle.std.proofs.Math.Nat.{suc-mod, mod-eq_of_lt, mod_self, suc-mul, mul-le-mul_right}
use Rattle.std.proofs.lemmas.Bool.{eqb-true, eqb-false, le-leb, leb-false, and_parts, false≢true}
use Rattle.std.proofs.lemmas.Nat.{mod_below}
use Rattle.swim_wire.specs.declared.rules.Rules.{Rules}
use Rattle.swim_wire.specs.declared.rules.Rules.TheVariants.{One, Two}
use Rattle.swim_wire.specs.declared.update.Update.{Update}
use Rattle.swim_wire.specs.declared.update.UpdateKind.{UpdateKind}
use Rattle.swim_wire.specs.declared.update.UpdateKind.TheVariants.{Alive, Suspect, Confirm}
use Rattle.swim_rules.specs.declared.table.Row.{Row}
use Rattle.swim_rules.specs.declared.table.Heard.TheVariants as heard
use Rattle.swim_rules.specs.Rules.{overrides, beats, is_about}
use Rattle.swim_rules.specs.Rows.{AreInOrder, row_of, put_row, heard_row, answer_to, heard_as, is_kind, is_due}
use Rattle.swim_rules.proofs.Hearing.{about-row_of}
use Rattle.swim_rules.proofs.Tables.{order-put}
use Rattle.swim_member.specs.declared.settings.Settings.{Settings}
use Rattle.swim_member.specs.declared.state.Probe.{Probe}
use Rattle.swim_member.specs.Checks.{rules_of}
use Rattle.swim_rules.specs.Deals.{IsDeal}
use Rattle.swim_member.specs.State.{State, Change, Ticked}
use Rattle.swim_member.specs.Readings.{state}
use Rattle.swim_member.specs.Events.{Action, Advance, Expire, Forget, Blame, Probe_next, Ask, perform, each_from}
use Rattle.swim_member.specs.Hearing.{hear_other, heard_with}
use Rattle.swim_member.specs.Member.{is_eligible_name}
use Rattle.swim_member.specs.Probe.{is_at, blame, suspect_target, suspect_of, ask, ask_one, helpers_about}
use Rattle.swim_member.specs.Turn.{still_listed, look}
use Rattle.swim_member.specs.Machinery.Kept.{is_row}
use Rattle.swim_member.specs.Machinery.Steps.{apply_all, after, changes_from, rows_heard}
use Rattle.swim_member.proofs.Actions.{after-append, after-news, news-append}
use Rattle.swim_member.proofs.FewRows.{order-read, few-from}
use Rattle.swim_detect.specs.Finding.{is_eligible_row, is_waited_for, looks_to, periods_to, ticks_by_kind, ticks_with, ticks_left, is_alive, IsShort}
use Rattle.swim_detect.proofs.Views.{eligible-row, heard_view, view-heard}
use Rattle.swim_detect.proofs.Dues.{passing, none-passes, suspects_due, KeepsOrLoses, AllExpire, expire-all, forget-all, KeepsOrConfirms, IsStanding, confirm-all, stands-all}
use Rattle.swim_detect.proofs.Looking.{LooksOn, look-on}
use Rattle.swim_detect.proofs.Lists.{all-front, all-back}

-- The accusation

-- from s to t nothing changes but the row of the target
pub record Blames (x : ℕ) (s t : State) : Type 0 where
  pub time : t.time ≡ s.time
  pub settings : t.settings ≡ s.settings
  pub probe : t.probe ≡ s.probe
  pub left : still_listed t ≡ still_listed s
  pub order : AreInOrder t.rows
  pub row : ((row_of t.rows x ≡ row_of s.rows x) × (is_at s 0 ≡ true → is_waited_for x s.probe ≡ true → is_alive (row_of s.rows x) ≡ false))
      ⊎ ((is_alive (row_of s.rows x) ≡ true) × ((u : Update) × (u.kind ≡ Suspect) × (row_of t.rows x ≡ Some (record { update = u; since = s.time }))))

over-alive : (rules : Rules) (k : UpdateKind) (n : ℕ) → is_kind Alive k ≡ true → beats rules Suspect n k n ≡ true
over-alive One Alive n h = le-leb n n (omega arith)
over-alive Two Alive n h = le-leb n n (omega arith)
over-alive rules Suspect n h = absurd (false≢true h)
over-alive rules Confirm n h = absurd (false≢true h)

pub blame-on : (x : ℕ) (s : State) → AreInOrder s.rows → Blames x s (apply_all (perform s Blame) s)
blame-on x s h = at (is_at s 0) refl s.probe refl
  where
    passes : (is_at s 0 ≡ true → is_waited_for x s.probe ≡ true → is_alive (row_of s.rows x) ≡ false) → Blames x s s
    passes f = record { time = refl; settings = refl; probe = refl; left = refl; order = h; row = inl (refl, f) }

    accused : (q : Probe) (r : Row) → s.probe ≡ Some q → row_of s.rows q.target ≡ Some r → is_kind Alive r.update.kind ≡ true → Blames x s (apply_all (hear_other s (suspect_of r)) s)
    accused q r p e k =
        let who : r.update.who ≡ q.target = about-row_of s.rows q.target r e in
        let here : row_of s.rows r.update.who ≡ Some r = ap (row_of s.rows) who ∙ e in
        let over : overrides (rules_of s.settings) (suspect_of r) r.update ≡ true = over-alive (rules_of s.settings) r.update.kind r.update.number k in
        let answer : answer_to (rules_of s.settings) s.rows (suspect_of r) ≡ heard.Accepted =
        ap (λ o. heard_as (rules_of s.settings) o (length s.rows == 256) (suspect_of r)) here ∙ ap (λ b. cond b heard.Accepted heard.Kept) over in
        let new : Row = record { update = suspect_of r; since = s.time } in
        let rows : rows_heard s (suspect_of r) ≡ put_row s.rows new =
        ap (λ o. entered o) here ∙ ap (λ b. cond b (put_row s.rows new) s.rows) over in
        subst (λ a. Blames x s (apply_all (heard_with a (suspect_of r)) s)) (sym answer)
        (record {
          time = refl;
          settings = refl;
          probe = refl;
          left = refl;
          order = subst AreInOrder (sym rows) (order-put s.rows new h);
          row = row (r.update.who == x) refl here over;
        })
      where
        entered : Option Row → List Row
        entered o = heard_row (rules_of s.settings) o s.rows (record { update = suspect_of r; since = s.time })

        view : (b : Bool) → (r.update.who == x) ≡ b → row_of (rows_heard s (suspect_of r)) x ≡ cond b (heard_view (rules_of s.settings) (suspect_of r) s.time (row_of s.rows x)) (row_of s.rows x)
        view b f = view-heard s (suspect_of r) x ∙ ap (λ c. cond c (heard_view (rules_of s.settings) (suspect_of r) s.time (row_of s.rows x)) (row_of s.rows x)) f

        row : (b : Bool) → (r.update.who == x) ≡ b → row_of s.rows r.update.who ≡ Some r → overrides (rules_of s.settings) (suspect_of r) r.update ≡ true
            → ((row_of (rows_heard s (suspect_of r)) x ≡ row_of s.rows x) × (is_at s 0 ≡ true → is_waited_for x s.probe ≡ true → is_alive (row_of s.rows x) ≡ false))
            ⊎ ((is_alive (row_of s.rows x) ≡ true) × ((u : Update) × (u.kind ≡ Suspect) × (row_of (rows_heard s (suspect_of r)) x ≡ Some (record { update = u; since = s.time }))))
        row true f here over =
            let mine : row_of s.rows x ≡ Some r = ap (row_of s.rows) (sym (eqb-true r.update.who x f)) ∙ here in
            inr (
              ap is_alive mine ∙ k,
              (
                suspect_of r,
                refl,
                view true f ∙ ap (heard_view (rules_of s.settings) (suspect_of r) s.time) mine ∙ ap (λ b. cond b (Some (record { update = suspect_of r; since = s.time })) (Some r)) over,
              ),
            )
        row false f here over = inl (
          view false f,
          λ a w.
              let target : (q.target == x && not q.answered) ≡ true = sym (ap (is_waited_for x) p) ∙ w in
              let same : q.target ≡ x = eqb-true q.target x ((and_parts (q.target == x) (not q.answered) target).0) in
              absurd (eqb-false r.update.who x f (about-row_of s.rows q.target r e ∙ same)),
        )

    of_kind : (q : Probe) (r : Row) (b : Bool) → s.probe ≡ Some q → row_of s.rows q.target ≡ Some r → is_kind Alive r.update.kind ≡ b → Blames x s (apply_all (cond b (hear_other s (suspect_of r)) []) s)
    of_kind q r true p e k = accused q r p e k
    of_kind q r false p e k = passes (λ a w. ap (λ o. is_alive (row_of s.rows o)) (target w) ∙ ap is_alive e ∙ k)
      where
        target : is_waited_for x s.probe ≡ true → x ≡ q.target
        target w =
            let t : (q.target == x && not q.answered) ≡ true = sym (ap (is_waited_for x) p) ∙ w in
            sym (eqb-true q.target x ((and_parts (q.target == x) (not q.answered) t).0))

    of_row : (q : Probe) (o : Option Row) → s.probe ≡ Some q → row_of s.rows q.target ≡ o → Blames x s (apply_all (suspect_target s o) s)
    of_row q (Some r) p e = of_kind q r (is_kind Alive r.update.kind) p e refl
    of_row q None p e = passes (λ a w. ap (λ o. is_alive (row_of s.rows o)) (target w) ∙ ap is_alive e)
      where
        target : is_waited_for x s.probe ≡ true → x ≡ q.target
        target w =
            let t : (q.target == x && not q.answered) ≡ true = sym (ap (is_waited_for x) p) ∙ w in
            sym (eqb-true q.target x ((and_parts (q.target == x) (not q.answered) t).0))

    of_answer : (q : Probe) (b : Bool) → q.answered ≡ b → s.probe ≡ Some q → Blames x s (apply_all (cond b [] (suspect_target s (row_of s.rows q.target))) s)
    of_answer q false e p = of_row q (row_of s.rows q.target) p refl
    of_answer q true e p = passes (λ a w.
        let t : (q.target == x && not q.answered) ≡ true = sym (ap (is_waited_for x) p) ∙ w in
        let n : not q.answered ≡ true = (and_parts (q.target == x) (not q.answered) t).1 in
        absurd (false≢true (sym (ap not e) ∙ n)))

    at : (b : Bool) → is_at s 0 ≡ b → (o : Option Probe) → s.probe ≡ o → Blames x s (apply_all (cond b (blame s o) []) s)
    at false e o p = passes (λ a w. absurd (false≢true (sym e ∙ a)))
    at true e None p = passes (λ a w. absurd (false≢true (sym (ap (is_waited_for x) p) ∙ w)))
    at true e (Some q) p = of_answer q q.answered refl p

-- The ping-reqs

pub record IsSame (s t : State) : Type 0 where
  pub time : t.time ≡ s.time
  pub settings : t.settings ≡ s.settings
  pub probe : t.probe ≡ s.probe
  pub left : still_listed t ≡ still_listed s
  pub rows : t.rows ≡ s.rows

same-self : (s : State) → IsSame s s
same-self s = record { time = refl; settings = refl; probe = refl; left = refl; rows = refl }

ask-one : (s : State) (k : ℕ) → IsSame s (apply_all (perform s (Ask k)) s)
ask-one s k = at (is_at s s.settings.direct) s.probe
  where
    of_helper : (q : Probe) (o : Option ℕ) → IsSame s (apply_all (ask_one s q o) s)
    of_helper q None = same-self s
    of_helper q (Some y) = record { time = refl; settings = refl; probe = refl; left = refl; rows = refl }

    of_test : (q : Probe) (b : Bool) → IsSame s (apply_all (cond b (ask_one s q (slice_get (helpers_about s q.target) k)) []) s)
    of_test q true = of_helper q (slice_get (helpers_about s q.target) k)
    of_test q false = same-self s

    at : (b : Bool) (o : Option Probe) → IsSame s (apply_all (cond b (ask s o k) []) s)
    at false o = same-self s
    at true None = same-self s
    at true (Some q) = of_test q (not q.answered && is_eligible_name s q.target)

pub ask-all : (n k : ℕ) (s : State) → IsSame s (after s (each_from k n (λ j. Ask j)))
ask-all zero k s = same-self s
ask-all (suc n) k s =
    let t : State = apply_all (perform s (Ask k)) s in
    let one : IsSame s t = ask-one s k in
    let more : IsSame t (after t (each_from (k + 1) n (λ j. Ask j))) = ask-all n (k + 1) t in
    record { time = more.time ∙ one.time; settings = more.settings ∙ one.settings; probe = more.probe ∙ one.probe; left = more.left ∙ one.left; rows = more.rows ∙ one.rows }

-- Numbers

-- the remainder goes up by one, or begins anew
pub next-mod : (t p : ℕ) → 1 ≤ p → ((t + 1) % p ≡ 0) ⊎ ((t + 1) % p ≡ t % p + 1)
next-mod t p l = at (suc (t % p) == p) refl
  where
    below : t % p < p
    below = mod_below t p l

    step : (t + 1) % p ≡ suc (t % p) % p
    step = let e : t + 1 ≡ suc t = omega arith in ap (λ n. n % p) e ∙ suc-mod t p

    at : (b : Bool) → (suc (t % p) == p) ≡ b → ((t + 1) % p ≡ 0) ⊎ ((t + 1) % p ≡ t % p + 1)
    at true e = inl (step ∙ ap (λ n. n % p) (eqb-true (suc (t % p)) p e) ∙ mod_self p)
    at false e =
        let n : suc (t % p) ≢ p = eqb-false (suc (t % p)) p e in
        let less : suc (t % p) < p = omega (arith, n, below) in
        inr (step ∙ mod-eq_of_lt less ∙ (omega arith))

-- and where it begins anew, it was the last
pub last-mod : (t p : ℕ) → 1 ≤ p → (t + 1) % p ≡ 0 → p - t % p ≡ 1
last-mod t p l z = at (suc (t % p) == p) refl
  where
    below : t % p < p
    below = mod_below t p l

    step : (t + 1) % p ≡ suc (t % p) % p
    step = let e : t + 1 ≡ suc t = omega arith in ap (λ n. n % p) e ∙ suc-mod t p

    at : (b : Bool) → (suc (t % p) == p) ≡ b → p - t % p ≡ 1
    at true e = let s : suc (t % p) ≡ p = eqb-true (suc (t % p)) p e in omega (arith, s)
    at false e =
        let n : suc (t % p) ≢ p = eqb-false (suc (t % p)) p e in
        let less : suc (t % p) < p = omega (arith, n, below) in
        let same : suc (t % p) ≡ 0 = sym (mod-eq_of_lt less) ∙ sym step ∙ z in
        absurd (omega (arith, same))

-- one product more
more-times : (a b p : ℕ) → a + 1 ≤ b → a * p + p ≤ b * p
more-times a b p l =
    let k : suc a ≤ b = omega arith in
    let e : suc a * p ≡ a * p + p = suc-mul a p in
    let m : suc a * p ≤ b * p = mul-le-mul_right p k in
    subst (λ n. n ≤ b * p) e m

pub passing-most : (p : Row → Bool) (rows : List Row) → passing p rows ≤ length rows
passing-most p [] = omega arith
passing-most p (r ∷ rows) = at (p r) (passing-most p rows)
  where
    at : (b : Bool) → passing p rows ≤ length rows → length (cond b (r ∷ filter p rows) (filter p rows)) ≤ length (r ∷ rows)
    at true l = omega arith
    at false l = omega arith

-- The look

pub record Turns (most x : ℕ) (s t : State) : Type 0 where
  pub time : t.time ≡ s.time
  pub settings : t.settings ≡ s.settings
  pub rows : t.rows ≡ s.rows
  pub turn : ((is_at s 0 ≡ false) × (periods_to most x t ≡ periods_to most x s))
      ⊎ ((is_at s 0 ≡ true) × (is_eligible_name s x ≡ true → periods_to most x t + 1 ≤ looks_to most x (still_listed s)))

pub turn-on : (most x : ℕ) (s : State) (deal : List ℕ) → IsDeal deal → length s.rows ≤ 256 → AllByRecursion (IsShort most) (perform s (Probe_next deal)) → Turns most x s (apply_all (perform s (Probe_next deal)) s)
turn-on most x s deal d few short = at (is_at s 0) refl short
  where
    at : (b : Bool) → is_at s 0 ≡ b → AllByRecursion (IsShort most) (cond b (look s deal) []) → Turns most x s (apply_all (cond b (look s deal) []) s)
    at false e k = record { time = refl; settings = refl; rows = refl; turn = inl (e, refl) }
    at true e k =
        let l : LooksOn most x s (apply_all (look s deal) s) = look-on most x s deal d few k in
        record { time = l.time; settings = l.settings; rows = l.rows; turn = inr (e, l.nearer) }

-- The whole tick

pub alive-eligible : (o : Option Row) → is_alive o ≡ true → is_eligible_row o ≡ true
alive-eligible None h = absurd (false≢true h)
alive-eligible (Some r) h = at r.update.kind h
  where
    at : (k : UpdateKind) → is_kind Alive k ≡ true → not (is_kind Confirm k) ≡ true
    at Alive h = refl
    at Suspect h = absurd (false≢true h)
    at Confirm h = absurd (false≢true h)

pub eligible-some : (o : Option Row) → is_eligible_row o ≡ true → is_row o ≡ true
eligible-some None h = h
eligible-some (Some r) h = refl

-- what is left, by what a state has
left-as : (most x : ℕ) (t : State) (c : Settings) (now : ℕ) (o : Option Row) → t.settings ≡ c → t.time ≡ now → row_of t.rows x ≡ o → ticks_left most x t ≡ ticks_with (c.period - now % c.period + periods_to most x t * c.period + c.suspect) c.suspect now o
left-as most x t c now o e f g =
    ap (λ (d : Settings). ticks_with (d.period - t.time % d.period + periods_to most x t * d.period + d.suspect) d.suspect t.time (row_of t.rows x)) e
    ∙ ap (λ n. ticks_with (c.period - n % c.period + periods_to most x t * c.period + c.suspect) c.suspect n (row_of t.rows x)) f
    ∙ ap (λ v. ticks_with (c.period - now % c.period + periods_to most x t * c.period + c.suspect) c.suspect now v) g

-- what is left after a tick
pub record TickLess (most x : ℕ) (s t : State) : Type 0 where
  pub time : t.time ≡ s.time + 1
  pub row : is_row (row_of t.rows x) ≡ true
  pub less : (is_eligible_row (row_of t.rows x) ≡ false) ⊎ (t.time + ticks_left most x t ≤ s.time + ticks_left most x s)

-- from s, by a tick, through these states
record Through (most x : ℕ) (s s2 s3 s4 s5 s6 : State) : Type 0 where
  low : 1 ≤ s.settings.period
  suspect : 1 ≤ s.settings.suspect
  now : is_eligible_row (row_of s.rows x) ≡ true
  expired : KeepsOrLoses x (apply_all (Ticked ∷ []) s) s2
  none : suspects_due s2 ≤ 0
  fresh : KeepsOrConfirms x (apply_all (Ticked ∷ []) s) s2
  stands : row_of s3.rows x ≡ row_of s2.rows x
  forgot : KeepsOrLoses x s2 s3
  blamed : Blames x s3 s4
  turned : Turns most x s4 s5
  asked : IsSame s5 s6

through : (most x : ℕ) (s s2 s3 s4 s5 s6 : State) → Through most x s s2 s3 s4 s5 s6 → TickLess most x s s6
through most x s s2 s3 s4 s5 s6 h = record { time = time6; row = has_end; less = by_forgot h.forgot.row }
  where
    time3 : s3.time ≡ s.time + 1
    time3 = h.forgot.time ∙ h.expired.time

    time4 : s4.time ≡ s.time + 1
    time4 = h.blamed.time ∙ time3

    time6 : s6.time ≡ s.time + 1
    time6 = h.asked.time ∙ h.turned.time ∙ time4

    set3 : s3.settings ≡ s.settings
    set3 = h.forgot.settings ∙ h.expired.settings

    set4 : s4.settings ≡ s.settings
    set4 = h.blamed.settings ∙ set3

    set6 : s6.settings ≡ s.settings
    set6 = h.asked.settings ∙ h.turned.settings ∙ set4

    rows6 : row_of s6.rows x ≡ row_of s4.rows x
    rows6 = ap (λ l. row_of l x) (h.asked.rows ∙ h.turned.rows)

    probe3 : s3.probe ≡ s.probe
    probe3 = h.forgot.probe ∙ h.expired.probe

    left3 : still_listed s3 ≡ still_listed s
    left3 = h.forgot.left ∙ h.expired.left

    periods4 : periods_to most x s4 ≡ periods_to most x s
    periods4 =
        ap (λ o. cond (is_waited_for x o) 0 (looks_to most x (still_listed s4))) (h.blamed.probe ∙ probe3)
        ∙ ap (λ l. cond (is_waited_for x s.probe) 0 (looks_to most x l)) (h.blamed.left ∙ left3)

    periods6 : periods_to most x s6 ≡ periods_to most x s5
    periods6 =
        ap (λ o. cond (is_waited_for x o) 0 (looks_to most x (still_listed s6))) h.asked.probe
        ∙ ap (λ l. cond (is_waited_for x s5.probe) 0 (looks_to most x l)) h.asked.left

    has_early : is_row (row_of s2.rows x) ≡ true
    has_early = elim h.fresh.row [
      | inl e ↦ ap is_row e ∙ eligible-some (row_of s.rows x) h.now
      | inr c ↦ ap is_row c.held
    ]

    has_end : is_row (row_of s6.rows x) ≡ true
    has_end = elim h.blamed.row [
      | inl k ↦ ap is_row (rows6 ∙ k.0 ∙ h.stands) ∙ has_early
      | inr k ↦ ap is_row (rows6 ∙ k.1.2)
    ]

    -- who is lost stays so
    lost : is_eligible_row (row_of s3.rows x) ≡ false → is_eligible_row (row_of s6.rows x) ≡ false
    lost e = elim h.blamed.row [
      | inl k ↦ ap is_eligible_row (rows6 ∙ k.0) ∙ e
      | inr k ↦ absurd (false≢true (sym e ∙ alive-eligible (row_of s3.rows x) k.0))
    ]

    left6 : (o : Option Row) → row_of s4.rows x ≡ o → ticks_left most x s6 ≡ ticks_with (s.settings.period - (s.time + 1) % s.settings.period + periods_to most x s6 * s.settings.period + s.settings.suspect) s.settings.suspect (s.time + 1) o
    left6 o e = left-as most x s6 s.settings (s.time + 1) o set6 time6 (rows6 ∙ e)

    left0 : (o : Option Row) → row_of s.rows x ≡ o → ticks_left most x s ≡ ticks_with (s.settings.period - s.time % s.settings.period + periods_to most x s * s.settings.period + s.settings.suspect) s.settings.suspect s.time o
    left0 o e = left-as most x s s.settings s.time o refl refl e

    -- the suspicion goes on
    suspected : (r : Row) → row_of s.rows x ≡ Some r → row_of s2.rows x ≡ Some r → row_of s4.rows x ≡ Some r → r.update.kind ≡ Suspect → s6.time + ticks_left most x s6 ≤ s.time + ticks_left most x s
    suspected r a b c k =
        let undue : is_due Suspect s2.settings.suspect s2.time r ≡ false = none-passes (is_due Suspect s2.settings.suspect s2.time) (is_about x) s2.rows r h.none b in
        let undue1 : (is_kind Suspect r.update.kind && nat_le s.settings.suspect (s.time + 1 - r.since)) ≡ false =
        sym (ap (λ (c : Settings). is_due Suspect c.suspect s2.time r) h.expired.settings ∙ ap (λ n. is_due Suspect s.settings.suspect n r) h.expired.time) ∙ undue in
        let undue2 : nat_le s.settings.suspect (s.time + 1 - r.since) ≡ false = sym (ap (λ d. is_kind Suspect d && nat_le s.settings.suspect (s.time + 1 - r.since)) k) ∙ undue1 in
        let e6 : ticks_left most x s6 ≡ max 1 (r.since + s.settings.suspect - (s.time + 1)) = left6 (Some r) c ∙ ap (λ d. ticks_by_kind (s.settings.period - (s.time + 1) % s.settings.period + periods_to most x s6 * s.settings.period + s.settings.suspect) s.settings.suspect (s.time + 1) d r.since) k in
        let e0 : ticks_left most x s ≡ max 1 (r.since + s.settings.suspect - s.time) = left0 (Some r) a ∙ ap (λ d. ticks_by_kind (s.settings.period - s.time % s.settings.period + periods_to most x s * s.settings.period + s.settings.suspect) s.settings.suspect s.time d r.since) k in
        plain (ticks_left most x s6) (ticks_left most x s) r.since s.settings.suspect s.time s6.time e6 e0 time6 (leb-false s.settings.suspect (s.time + 1 - r.since) undue2)
      where
        plain : (a b since suspect t u : ℕ) → a ≡ max 1 (since + suspect - (t + 1)) → b ≡ max 1 (since + suspect - t) → u ≡ t + 1 → t + 1 - since < suspect → u + a ≤ t + b
        plain a b since suspect t u e f g l = omega arith

    -- it begins
    accused : (r : Row) (u : Update) → row_of s.rows x ≡ Some r → r.update.kind ≡ Alive → u.kind ≡ Suspect → row_of s4.rows x ≡ Some (record { update = u; since = s3.time }) → s6.time + ticks_left most x s6 ≤ s.time + ticks_left most x s
    accused r u a k l c =
        let since : row_of s4.rows x ≡ Some (record { update = u; since = s.time + 1 }) = c ∙ ap (λ n. Some (record { update = u; since = n })) time3 in
        let e6 : ticks_left most x s6 ≡ max 1 (s.time + 1 + s.settings.suspect - (s.time + 1)) = left6 (Some (record { update = u; since = s.time + 1 })) since ∙ ap (λ d. ticks_by_kind (s.settings.period - (s.time + 1) % s.settings.period + periods_to most x s6 * s.settings.period + s.settings.suspect) s.settings.suspect (s.time + 1) d (s.time + 1)) l in
        let e0 : ticks_left most x s ≡ s.settings.period - s.time % s.settings.period + periods_to most x s * s.settings.period + s.settings.suspect = left0 (Some r) a ∙ ap (λ d. ticks_by_kind (s.settings.period - s.time % s.settings.period + periods_to most x s * s.settings.period + s.settings.suspect) s.settings.suspect s.time d r.since) k in
        plain (ticks_left most x s6) (ticks_left most x s) (s.time % s.settings.period) s.settings.period (periods_to most x s * s.settings.period) s.settings.suspect s.time s6.time e6 e0 time6 (mod_below s.time s.settings.period h.low) h.suspect
      where
        plain : (a b m p k n t u : ℕ) → a ≡ max 1 (t + 1 + n - (t + 1)) → b ≡ p - m + k + n → u ≡ t + 1 → m < p → 1 ≤ n → u + a ≤ t + b
        plain a b m p k n t u e f g l i = omega arith

    -- an Alive row stays
    alive : (r : Row) → row_of s.rows x ≡ Some r → row_of s3.rows x ≡ Some r → row_of s4.rows x ≡ row_of s3.rows x → r.update.kind ≡ Alive → (is_at s3 0 ≡ true → is_waited_for x s3.probe ≡ true → is_alive (row_of s3.rows x) ≡ false) → s6.time + ticks_left most x s6 ≤ s.time + ticks_left most x s
    alive r a b c k w = by_turn h.turned.turn
      where
        period : ℕ
        period = s.settings.period

        e6 : ticks_left most x s6 ≡ period - (s.time + 1) % period + periods_to most x s5 * period + s.settings.suspect
        e6 =
            left6 (Some r) (c ∙ b) ∙ ap (λ d. ticks_by_kind (period - (s.time + 1) % period + periods_to most x s6 * period + s.settings.suspect) s.settings.suspect (s.time + 1) d r.since) k
            ∙ ap (λ n. period - (s.time + 1) % period + n * period + s.settings.suspect) periods6

        e0 : ticks_left most x s ≡ period - s.time % period + periods_to most x s * period + s.settings.suspect
        e0 = left0 (Some r) a ∙ ap (λ d. ticks_by_kind (period - s.time % period + periods_to most x s * period + s.settings.suspect) s.settings.suspect s.time d r.since) k

        moment : (n : ℕ) → (s4.time % s4.settings.period == n) ≡ ((s.time + 1) % period == n)
        moment n = ap (λ (d : Settings). s4.time % d.period == n) set4 ∙ ap (λ i. i % period == n) time4

        moment3 : is_at s3 0 ≡ is_at s4 0
        moment3 = ap (λ (d : Settings). s3.time % d.period == 0) set3 ∙ ap (λ i. i % period == 0) time3 ∙ sym (moment 0)

        by_turn : ((is_at s4 0 ≡ false) × (periods_to most x s5 ≡ periods_to most x s4)) ⊎ ((is_at s4 0 ≡ true) × (is_eligible_name s4 x ≡ true → periods_to most x s5 + 1 ≤ looks_to most x (still_listed s4))) → s6.time + ticks_left most x s6 ≤ s.time + ticks_left most x s
        by_turn (inl (e, f)) =
            let off : (s.time + 1) % period ≢ 0 = eqb-false ((s.time + 1) % period) 0 (sym (moment 0) ∙ e) in
            let one : (s.time + 1) % period ≡ s.time % period + 1 = up (next-mod s.time period h.low) off in
            let e6 : ticks_left most x s6 ≡ period - (s.time + 1) % period + periods_to most x s * period + s.settings.suspect = e6 ∙ ap (λ n. period - (s.time + 1) % period + n * period + s.settings.suspect) (f ∙ periods4) in
            plain (ticks_left most x s6) (ticks_left most x s) (s.time % period) ((s.time + 1) % period) period (periods_to most x s * period) s.settings.suspect s.time s6.time e6 e0 time6 (mod_below s.time period h.low) one
          where
            up : ((s.time + 1) % period ≡ 0) ⊎ ((s.time + 1) % period ≡ s.time % period + 1) → (s.time + 1) % period ≢ 0 → (s.time + 1) % period ≡ s.time % period + 1
            up (inl z) n = absurd (n z)
            up (inr o) n = o

            plain : (a b m n p k v t u : ℕ) → a ≡ p - n + k + v → b ≡ p - m + k + v → u ≡ t + 1 → m < p → n ≡ m + 1 → u + a ≤ t + b
            plain a b m n p k v t u e f g l i = omega arith
        by_turn (inr (e, f)) =
            let zero_now : (s.time + 1) % period ≡ 0 = eqb-true ((s.time + 1) % period) 0 (sym (moment 0) ∙ e) in
            let one : period - s.time % period ≡ 1 = last-mod s.time period h.low zero_now in
            let living : is_alive (row_of s3.rows x) ≡ true = ap is_alive b ∙ ap (is_kind Alive) k in
            let unwaited : is_waited_for x s.probe ≡ false = not_waited (is_waited_for x s.probe) refl living in
            let periods0 : periods_to most x s ≡ looks_to most x (still_listed s) = ap (λ q. cond q 0 (looks_to most x (still_listed s))) unwaited in
            let now4 : is_eligible_name s4 x ≡ true = eligible-row s4.rows x h.blamed.order ∙ ap is_eligible_row (c ∙ b) ∙ ap (λ d. not (is_kind Confirm d)) k in
            let fewer : periods_to most x s5 + 1 ≤ periods_to most x s = subst (λ n. periods_to most x s5 + 1 ≤ n) (ap (looks_to most x) (h.blamed.left ∙ left3) ∙ sym periods0) (f now4) in
            let product : periods_to most x s5 * period + period ≤ periods_to most x s * period = more-times (periods_to most x s5) (periods_to most x s) period fewer in
            plain (ticks_left most x s6) (ticks_left most x s) ((s.time + 1) % period) period (period - s.time % period) (periods_to most x s5 * period) (periods_to most x s * period) s.settings.suspect s.time s6.time e6 e0 time6 zero_now one product
          where
            not_waited : (q : Bool) → is_waited_for x s.probe ≡ q → is_alive (row_of s3.rows x) ≡ true → is_waited_for x s.probe ≡ false
            not_waited true g living = absurd (false≢true (sym (w (moment3 ∙ e) (ap (is_waited_for x) probe3 ∙ g)) ∙ living))
            not_waited false g living = g

            plain : (a b n p d i k v t u : ℕ) → a ≡ p - n + i + v → b ≡ d + k + v → u ≡ t + 1 → n ≡ 0 → d ≡ 1 → i + p ≤ k → u + a ≤ t + b
            plain a b n p d i k v t u e f g l m o = omega arith

    -- x has its row up to the accusation
    kept : (r : Row) → row_of s.rows x ≡ Some r → row_of s2.rows x ≡ Some r → row_of s3.rows x ≡ Some r → s6.time + ticks_left most x s6 ≤ s.time + ticks_left most x s
    kept r a b c = by_kind r.update.kind refl h.blamed.row
      where
        by_kind : (d : UpdateKind) → r.update.kind ≡ d
            → ((row_of s4.rows x ≡ row_of s3.rows x) × (is_at s3 0 ≡ true → is_waited_for x s3.probe ≡ true → is_alive (row_of s3.rows x) ≡ false))
            ⊎ ((is_alive (row_of s3.rows x) ≡ true) × ((u : Update) × (u.kind ≡ Suspect) × (row_of s4.rows x ≡ Some (record { update = u; since = s3.time }))))
            → s6.time + ticks_left most x s6 ≤ s.time + ticks_left most x s
        by_kind Alive e (inl (f, w)) = alive r a c f e w
        by_kind Alive e (inr (l, (u, i, j))) = accused r u a e i j
        by_kind Suspect e (inl (f, w)) = suspected r a b (f ∙ c) e
        by_kind Suspect e (inr (l, m)) = absurd (false≢true (sym (ap is_alive c ∙ ap (is_kind Alive) e) ∙ l))
        by_kind Confirm e m = absurd (false≢true (sym (ap is_eligible_row a ∙ ap (λ d. not (is_kind Confirm d)) e) ∙ h.now))

    there : (o : Option Row) → row_of s.rows x ≡ o → row_of s2.rows x ≡ o → row_of s3.rows x ≡ o → s6.time + ticks_left most x s6 ≤ s.time + ticks_left most x s
    there None a b c = absurd (false≢true (sym (ap is_eligible_row a) ∙ h.now))
    there (Some r) a b c = kept r a b c

    by_expired : row_of s3.rows x ≡ row_of s2.rows x → (row_of s2.rows x ≡ row_of s.rows x) ⊎ (is_eligible_row (row_of s2.rows x) ≡ false) → (is_eligible_row (row_of s6.rows x) ≡ false) ⊎ (s6.time + ticks_left most x s6 ≤ s.time + ticks_left most x s)
    by_expired e (inl f) = inr (there (row_of s.rows x) refl f (e ∙ f))
    by_expired e (inr f) = inl (lost (ap is_eligible_row e ∙ f))

    by_forgot : (row_of s3.rows x ≡ row_of s2.rows x) ⊎ (is_eligible_row (row_of s3.rows x) ≡ false) → (is_eligible_row (row_of s6.rows x) ≡ false) ⊎ (s6.time + ticks_left most x s6 ≤ s.time + ticks_left most x s)
    by_forgot (inl e) = by_expired e h.expired.row
    by_forgot (inr e) = inl (lost e)

pub tick-on : (most x : ℕ) (base : State) (log : List Change) (n k : ℕ) (deal : List ℕ) → IsDeal deal → 1 ≤ base.settings.period → 1 ≤ base.settings.suspect → 1 ≤ base.settings.forget → length (state base log).rows ≤ 256 → length (state base log).rows ≤ n → is_eligible_row (row_of (state base log).rows x) ≡ true
    → AllByRecursion (IsShort most) (changes_from (state base log) (Advance ∷ replicate n Expire ++ replicate k Forget ++ Blame ∷ Probe_next deal ∷ each_from 0 8 (λ j. Ask j)))
    → TickLess most x (state base log) (after (state base log) (Advance ∷ replicate n Expire ++ replicate k Forget ++ Blame ∷ Probe_next deal ∷ each_from 0 8 (λ j. Ask j)))
tick-on most x base log n k deal d low suspect forget_low few all now short =
    subst (λ t. TickLess most x s t) (sym is) (through most x s s2 s3 s4 s5 s6 (record {
      low = low;
      suspect = suspect;
      now = now;
      expired = expired.keeps;
      none = expired.none;
      fresh = fresh;
      stands = stands-all x k s2 expired.keeps.order (subst (λ c. 1 ≤ c.forget) (sym expired.keeps.settings) forget_low) standing;
      forgot = forgot;
      blamed = blamed;
      turned = turn-on most x s4 deal d few4 short4;
      asked = ask-all 8 0 s5;
    }))
  where
    s : State
    s = state base log

    asks : List Action
    asks = each_from 0 8 (λ j. Ask j)

    s1 : State
    s1 = apply_all (Ticked ∷ []) s

    s2 : State
    s2 = after s1 (replicate n Expire)

    s3 : State
    s3 = after s2 (replicate k Forget)

    s4 : State
    s4 = apply_all (perform s3 Blame) s3

    s5 : State
    s5 = apply_all (perform s4 (Probe_next deal)) s4

    s6 : State
    s6 = after s5 asks

    expired : AllExpire x s1 s2
    expired = expire-all x n s1 (order-read base log) (let most_due : suspects_due s1 ≤ length s.rows = passing-most (is_due Suspect s1.settings.suspect s1.time) s.rows in through-le (suspects_due s1) (length s.rows) n most_due all)
      where
        through-le : (a b c : ℕ) → a ≤ b → b ≤ c → a ≤ c
        through-le a b c h k = omega arith

    fresh : KeepsOrConfirms x s1 s2
    fresh = confirm-all x n s1 (order-read base log)

    standing : IsStanding x s2
    standing r e = elim fresh.row [
      | inl f ↦ inl (ap is_eligible_row (sym e ∙ f) ∙ now)
      | inr c ↦ inr (let same : c.row ≡ r = one (sym c.held ∙ e) in ap (λ (q : Row). q.since) (sym same) ∙ c.since)
    ]
      where
        one : {p q : Row} → Some p ≡ Some q → p ≡ q
        one e = cc

    forgot : KeepsOrLoses x s2 s3
    forgot = forget-all x k s2 expired.keeps.order

    blamed : Blames x s3 s4
    blamed = blame-on x s3 forgot.order

    early : List Action
    early = (Advance ∷ replicate n Expire ++ replicate k Forget) ++ Blame ∷ []

    early-is : after s early ≡ s4
    early-is =
        after-append s (Advance ∷ replicate n Expire ++ replicate k Forget) (Blame ∷ [])
        ∙ ap (λ t. apply_all (perform t Blame) t) (after-append s1 (replicate n Expire) (replicate k Forget))

    is : after s (Advance ∷ replicate n Expire ++ replicate k Forget ++ Blame ∷ Probe_next deal ∷ asks) ≡ s6
    is =
        after-append s1 (replicate n Expire ++ replicate k Forget) (Blame ∷ Probe_next deal ∷ asks)
        ∙ ap (λ t. after t (Blame ∷ Probe_next deal ∷ asks)) (after-append s1 (replicate n Expire) (replicate k Forget))

    few4 : length s4.rows ≤ 256
    few4 = subst (λ t. length (State.rows t) ≤ 256) (after-news s early ∙ early-is) (few-from base log early few)

    actions-are : Advance ∷ replicate n Expire ++ replicate k Forget ++ Blame ∷ Probe_next deal ∷ asks ≡ early ++ Probe_next deal ∷ asks
    actions-are =
        sym (append_assoc (Advance ∷ replicate n Expire ++ replicate k Forget) (Blame ∷ []) (Probe_next deal ∷ asks))

    news-are : changes_from s (Advance ∷ replicate n Expire ++ replicate k Forget ++ Blame ∷ Probe_next deal ∷ asks) ≡ (changes_from s5 asks ++ perform s4 (Probe_next deal)) ++ changes_from s early
    news-are =
        ap (changes_from s) actions-are
        ∙ news-append s early (Probe_next deal ∷ asks)
        ∙ ap (λ t. changes_from t (Probe_next deal ∷ asks) ++ changes_from s early) early-is

    short4 : AllByRecursion (IsShort most) (perform s4 (Probe_next deal))
    short4 =
        all-back (IsShort most) (changes_from s5 asks) (perform s4 (Probe_next deal))
        (all-front (IsShort most) (changes_from s5 asks ++ perform s4 (Probe_next deal)) (changes_from s early)
        (subst (λ fs. AllByRecursion (IsShort most) fs) news-are short))
