-- Who was found stays so, and how long it takes at most.
use Rattle.std.proofs.Common.{◌≡◌, ℕ, suc, ◌+◌, ◌-◌, ◌*◌, ◌%◌, ◌≤◌, ◌==◌, Bool, true, false, cond, ◌&&◌, not, refl, sym, ◌∙◌, ap, subst, List, [], ◌∷◌, ◌++◌, append_assoc, append-nil, replicate, length, Option, Some, None, arith}
use Rattle.std.specs.List.{cons_option, slice_get, AllByRecursion}
use Rattle.std.proofs.Math.Nat.{mul-le-mul_right, suc-mul}
use Rattle.std.proofs.lemmas.Bool.{false≢true}
use Rattle.swim_member.proofs.Actions.{news-append}
use Rattle.swim_wire.specs.declared.rules.Rules.{Rules}
use Rattle.swim_wire.specs.declared.update.Update.{Update}
use Rattle.swim_wire.specs.declared.update.UpdateKind.TheVariants.{Confirm}
use Rattle.swim_rules.specs.declared.table.Row.{Row}
use Rattle.swim_rules.specs.Rules.{overrides}
use Rattle.swim_rules.specs.Rows.{AreInOrder, row_of, is_kind}
use Rattle.swim_rules.proofs.Tables.{row_of-remove}
use Rattle.swim_member.specs.Checks.{rules_of}
use Rattle.swim_rules.specs.Deals.{IsDeal}
use Rattle.swim_member.specs.Judge.{HasDeal}
use Rattle.swim_member.specs.Member.{is_eligible_name}
use Rattle.swim_member.specs.State.{State, Change, Heard, Forgot, Looked, Listed}
use Rattle.swim_member.specs.Readings.{state}
use Rattle.swim_member.specs.Turn.{still_listed, next_listed, eligible_names, dealt, begin_turn, take_turn, look}
use Rattle.swim_member.specs.Probe.{is_at}
use Rattle.swim_member.specs.Events.{Step, Action, Advance, Expire, Forget, Blame, Probe_next, Ask, perform, each_from, actions, changes_of, log_after, log_of}
use Rattle.swim_member.specs.Machinery.Steps.{apply, apply_all, after, changes_from, step_news}
use Rattle.swim_member.proofs.Logs.{state-happening, news-news_from}
use Rattle.swim_member.proofs.FewRows.{order-read}
use Rattle.swim_member.proofs.Showing.{Lacks, Turned, news-no, quiet-append, quiet-early, quiet-each}
use Rattle.swim_detect.specs.Finding.{is_eligible_row, looks_to, periods_to, is_waited_for, brings_back, returns, NeverReturns, happened_in, StaysFound, GetsFound, IsFoundInTheEnd, IsShort, IsAtMost, ListsAreShort}
use Rattle.swim_detect.proofs.Views.{eligible-row, heard_view, view-heard}
use Rattle.swim_detect.proofs.Found.{log-append, found-in_time}
use Rattle.swim_detect.proofs.Outside.{IsOutside, AreOutside, Kinds, Counts, Outer, kind-of}
use Rattle.swim_detect.proofs.Lists.{all-append}

-- Not eligible

heard-lost : (rules : Rules) (u : Update) (now : ℕ) (o : Option Row) → is_eligible_row o ≡ false → (not (is_eligible_row o) && brings_back rules o u) ≡ false → is_eligible_row (heard_view rules u now o) ≡ false
heard-lost rules u now None h k = confirm (is_kind Confirm u.kind) k
  where
    confirm : (b : Bool) → (true && not b) ≡ false → not b ≡ false
    confirm true k = refl
    confirm false k = absurd (false≢true (sym k))
heard-lost rules u now (Some r) h k = at (overrides rules u r.update) refl (sym (ap (λ b. not b && brings_back rules (Some r) u) h) ∙ k)
  where
    confirm : (b : Bool) → (true && (not b && true)) ≡ false → not b ≡ false
    confirm true k = refl
    confirm false k = absurd (false≢true (sym k))

    at : (b : Bool) → overrides rules u r.update ≡ b → (true && (not (is_kind Confirm u.kind) && b)) ≡ false → is_eligible_row (cond b (Some (record { update = u; since = now })) (Some r)) ≡ false
    at true e k = confirm (is_kind Confirm u.kind) k
    at false e k = h

lost-one : (x : ℕ) (f : Change) (s : State) → AreInOrder s.rows → returns x s f ≡ false → is_eligible_row (row_of s.rows x) ≡ false → is_eligible_row (row_of (apply f s).rows x) ≡ false
lost-one x (Heard u) s o n h = at (u.who == x) refl n
  where
    assoc : (a b c : Bool) → (a && b && c) ≡ false → a ≡ true → (b && c) ≡ false
    assoc true b c k e = k
    assoc false b c k e = absurd (false≢true e)

    at : (b : Bool) → (u.who == x) ≡ b → returns x s (Heard u) ≡ false → is_eligible_row (row_of (apply (Heard u) s).rows x) ≡ false
    at true e k =
        ap is_eligible_row (view-heard s u x ∙ ap (λ c. cond c (heard_view (rules_of s.settings) u s.time (row_of s.rows x)) (row_of s.rows x)) e)
        ∙ heard-lost (rules_of s.settings) u s.time (row_of s.rows x) h (assoc (u.who == x) (not (is_eligible_row (row_of s.rows x))) (brings_back (rules_of s.settings) (row_of s.rows x) u) k e)
    at false e k = ap is_eligible_row (view-heard s u x ∙ ap (λ c. cond c (heard_view (rules_of s.settings) u s.time (row_of s.rows x)) (row_of s.rows x)) e) ∙ h
lost-one x (Forgot y) s o n h = ap is_eligible_row (row_of-remove s.rows y x o) ∙ at (y == x)
  where
    at : (b : Bool) → is_eligible_row (cond b None (row_of s.rows x)) ≡ false
    at true = refl
    at false = h
lost-one x _ s o n h = h

lost-all : (x : ℕ) (base : State) (log fs : List Change) → NeverReturns x base log fs → is_eligible_row (row_of (state base log).rows x) ≡ false → is_eligible_row (row_of (state base (fs ++ log)).rows x) ≡ false
lost-all x base log [] n h = h
lost-all x base log (f ∷ fs) n h =
    ap (λ (s : State). is_eligible_row (row_of s.rows x)) (state-happening base (fs ++ log) f)
    ∙ lost-one x f (state base (fs ++ log)) (order-read base (fs ++ log)) n.0 (lost-all x base log fs n.1 h)

happened-after : (base : State) (log : List Change) (steps : List Step) → log_after base log steps ≡ happened_in base log steps ++ log
happened-after base log [] = refl
happened-after base log (e ∷ steps) =
    let fs : List Change = changes_of base log e.event e.granted in
    happened-after base (fs ++ log) steps ∙ sym (append_assoc (happened_in base (fs ++ log) steps) fs log)

stays-from : (x : ℕ) (base : State) (log : List Change) (steps : List Step) → NeverReturns x base log (happened_in base log steps) → is_eligible_name (state base log) x ≡ false → is_eligible_name (state base (log_after base log steps)) x ≡ false
stays-from x base log steps n h =
    let fs : List Change = happened_in base log steps in
    ap (λ l. is_eligible_name (state base l) x) (happened-after base log steps)
    ∙ eligible-row (state base (fs ++ log)).rows x (order-read base (fs ++ log))
    ∙ lost-all x base log fs n (sym (eligible-row (state base log).rows x (order-read base log)) ∙ h)

pub stays-found : (x : ℕ) (base : State) (before stretch : List Step) → StaysFound x base before stretch
stays-found x base before stretch n h =
    ap (λ l. is_eligible_name (state base l) x) (log-append base [] before stretch) ∙ stays-from x base (log_of base before) stretch n h

-- In the end

returns-late : (x : ℕ) (base : State) (log fs gs : List Change) → NeverReturns x base log (fs ++ gs) → NeverReturns x base (gs ++ log) fs
returns-late x base log [] gs h = tt
returns-late x base log (f ∷ fs) gs h = (subst (λ (l : List Change). returns x (state base l) f ≡ false) (append_assoc fs gs log) h.0, returns-late x base log fs gs h.1)

happened-append : (base : State) (log : List Change) (a b : List Step) → happened_in base log (a ++ b) ≡ happened_in base (log_after base log a) b ++ happened_in base log a
happened-append base log [] b = sym (append-nil (happened_in base log b))
happened-append base log (e ∷ a) b =
    let fs : List Change = changes_of base log e.event e.granted in
    ap (λ gs. gs ++ fs) (happened-append base (fs ++ log) a b)
    ∙ append_assoc (happened_in base (log_after base (fs ++ log) a) b) (happened_in base (fs ++ log) a) fs

pub found-in_end : (most x : ℕ) (base : State) (before stretch : List Step) → IsFoundInTheEnd most x base before stretch
found-in_end most x base before stretch sound unspared n high =
    let f : GetsFound most x base before stretch = found-in_time most x base before stretch sound unspared high in
    let log : List Change = log_of base before in
    let mid : List Change = log_after base log f.done in
    let parted : happened_in base log stretch ≡ happened_in base mid f.rest ++ happened_in base log f.done = ap (happened_in base log) f.parts ∙ happened-append base log f.done f.rest in
    let late : NeverReturns x base (happened_in base log f.done ++ log) (happened_in base mid f.rest) =
    returns-late x base log (happened_in base mid f.rest) (happened_in base log f.done) (subst (λ l. NeverReturns x base log l) parted n) in
    let late_mid : NeverReturns x base mid (happened_in base mid f.rest) = subst (λ l. NeverReturns x base l (happened_in base mid f.rest)) (sym (happened-after base log f.done)) late in
    let now : is_eligible_name (state base mid) x ≡ false = subst (λ l. is_eligible_name (state base l) x ≡ false) (log-append base [] before f.done) f.found in
    ap (λ l. is_eligible_name (state base l) x) (log-append base [] before stretch ∙ ap (log_after base log) f.parts ∙ log-append base log f.done f.rest)
    ∙ stays-from x base mid f.rest late_mid now

-- At most

pub looks-most : (most x : ℕ) (l : List ℕ) → looks_to most x l ≤ length l + most
looks-most most x [] = omega arith
looks-most most x (y ∷ l) = at (y == x) (looks-most most x l)
  where
    at : (b : Bool) → looks_to most x l ≤ length l + most → cond b 1 (looks_to most x l + 1) ≤ length (y ∷ l) + most
    at true h = omega arith
    at false h = omega arith

pub within : (most x : ℕ) (s : State) → IsAtMost most x s
within most x s =
    let l : periods_to most x s ≤ length (still_listed s) + most = at (is_waited_for x s.probe) in
    let k : periods_to most x s * s.settings.period ≤ (length (still_listed s) + most) * s.settings.period = mul-le-mul_right s.settings.period l in
    let e : suc (length (still_listed s) + most) * s.settings.period ≡ (length (still_listed s) + most) * s.settings.period + s.settings.period = suc-mul (length (still_listed s) + most) s.settings.period in
    let o : length (still_listed s) + most + 1 ≡ suc (length (still_listed s) + most) = omega arith in
    plain s.settings.period (s.time % s.settings.period) (periods_to most x s * s.settings.period) ((length (still_listed s) + most) * s.settings.period) ((length (still_listed s) + most + 1) * s.settings.period) s.settings.suspect k (ap (λ n. n * s.settings.period) o ∙ e)
  where
    at : (b : Bool) → cond b 0 (looks_to most x (still_listed s)) ≤ length (still_listed s) + most
    at true = omega arith
    at false = looks-most most x (still_listed s)

    plain : (p m a b c n : ℕ) → a ≤ b → c ≡ b + p → p - m + a + n ≤ c + n
    plain p m a b c n h e = omega arith

-- Lists

short-quiet : (n : ℕ) (fs : List Change) → Lacks Turned fs → AllByRecursion (IsShort n) fs
short-quiet n [] a = tt
short-quiet n (Listed names ∷ fs) a = absurd (a.0 refl)
short-quiet n (_ ∷ fs) a = (tt, short-quiet n fs a.1)

dealt-most : (names deal : List ℕ) → length (dealt names deal) ≤ length deal
dealt-most names [] = omega arith
dealt-most names (n ∷ deal) = at (slice_get names n) (dealt-most names deal)
  where
    at : (o : Option ℕ) → length (dealt names deal) ≤ length deal → length (cons_option o (dealt names deal)) ≤ length (n ∷ deal)
    at None h = omega arith
    at (Some x) h = omega arith

look-short : (s : State) (deal : List ℕ) → IsDeal deal → AllByRecursion (IsShort 256) (look s deal)
look-short s deal d = by_next (next_listed s)
  where
    begun : (made : List ℕ) → length made ≤ 256 → AllByRecursion (IsShort 256) (begin_turn s made ++ Looked (eligible_names s) ∷ [])
    begun [] l = (tt, (l, (tt, tt)))
    begun (x ∷ names) l = (tt, (tt, (tt, (tt, (l, (tt, tt))))))

    by_next : (o : Option ℕ) → AllByRecursion (IsShort 256) (take_turn s deal o ++ Looked (eligible_names s) ∷ [])
    by_next (Some x) = (tt, (tt, (tt, (tt, (tt, tt)))))
    by_next None =
        let l : length (dealt (eligible_names s) deal) ≤ length deal = dealt-most (eligible_names s) deal in
        let e : length deal ≡ 256 = d.all in
        begun (dealt (eligible_names s) deal) (plain (length (dealt (eligible_names s) deal)) (length deal) l e)
      where
        plain : (a b : ℕ) → a ≤ b → b ≡ 256 → a ≤ 256
        plain a b h e = omega arith

tick-short : (s : State) (n k : ℕ) (deal : List ℕ) → IsDeal deal → AllByRecursion (IsShort 256) (changes_from s (Advance ∷ replicate n Expire ++ replicate k Forget ++ Blame ∷ Probe_next deal ∷ each_from 0 8 (λ j. Ask j)))
tick-short s n k deal d =
    let first : List Action = Advance ∷ replicate n Expire ++ replicate k Forget in
    let asks : List Action = each_from 0 8 (λ j. Ask j) in
    let early : List Action = first ++ Blame ∷ [] in
    let t : State = after s early in
    let u : State = apply_all (perform t (Probe_next deal)) t in
    let is : changes_from s (first ++ Blame ∷ Probe_next deal ∷ asks) ≡ (changes_from u asks ++ perform t (Probe_next deal)) ++ changes_from s early =
    ap (changes_from s) (sym (append_assoc first (Blame ∷ []) (Probe_next deal ∷ asks))) ∙ news-append s early (Probe_next deal ∷ asks) in
    subst (λ fs. AllByRecursion (IsShort 256) fs) (sym is)
    (all-append (IsShort 256) (changes_from u asks ++ perform t (Probe_next deal)) (changes_from s early)
    (all-append (IsShort 256) (changes_from u asks) (perform t (Probe_next deal))
    (short-quiet 256 (changes_from u asks) (news-no Turned u asks (quiet-each Turned (λ j. Ask j) (λ j. tt) 8 0)))
    (at t (is_at t 0)))
    (short-quiet 256 (changes_from s early) (news-no Turned s early (quiet-append Turned first (Blame ∷ []) (quiet-early Turned (λ e. cc) n k) ((λ e. cc), tt)))))
  where
    at : (t : State) (b : Bool) → AllByRecursion (IsShort 256) (cond b (look t deal) [])
    at t true = look-short t deal d
    at t false = tt

-- outside of a tick that counts no list is made
short-outside : (fs : List Change) → AreOutside fs → AllByRecursion (IsShort 256) fs
short-outside [] a = tt
short-outside (f ∷ fs) a = (one f a.0, short-outside fs a.1)
  where
    one : (f : Change) → IsOutside f → IsShort 256 f
    one (Listed names) h = absurd h
    one _ h = tt

step-short : (base : State) (log : List Change) (e : Step) → HasDeal e.event → AllByRecursion (IsShort 256) (changes_of base log e.event e.granted)
step-short base log e d = subst (λ fs. AllByRecursion (IsShort 256) fs) (sym (news-news_from base log (actions (state base log) e.event e.granted))) (by_kind (kind-of s e.event e.granted))
  where
    s : State
    s = state base log

    by_kind : Kinds s e.event e.granted → AllByRecursion (IsShort 256) (step_news s e.event e.granted)
    by_kind (Counts deal f same) = subst (λ ms. AllByRecursion (IsShort 256) (changes_from s ms)) (sym same) (tick-short s 256 256 deal (subst HasDeal f d))
    by_kind (Outer out) = short-outside (step_news s e.event e.granted) out

stretch-short : (base : State) (log : List Change) (steps : List Step) → AllByRecursion (λ (e : Step). HasDeal e.event) steps → AllByRecursion (IsShort 256) (happened_in base log steps)
stretch-short base log [] h = tt
stretch-short base log (e ∷ steps) h =
    let fs : List Change = changes_of base log e.event e.granted in
    all-append (IsShort 256) (happened_in base (fs ++ log) steps) fs (stretch-short base (fs ++ log) steps h.1) (step-short base log e h.0)

pub lists-short : (base : State) (before stretch : List Step) → ListsAreShort base before stretch
lists-short base before stretch h = stretch-short base (log_of base before) stretch h
