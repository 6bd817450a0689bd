-- What each happening changes in the state that is read off, and steps over a history.
use Rattle.std.proofs.Common.{◌≡◌, ℕ, ◌+◌, ◌-◌, ◌<◌, ◌==◌, ◌&&◌, nat_lt, Bool, true, false, cond, refl, sym, ◌∙◌, ap, List, [], ◌∷◌, ◌++◌, map, inl, inr, arith}
use Rattle.std.specs.List.{filter}
use Rattle.std.proofs.lemmas.Bool.{cases_Bool, eqb-true, eqb-false, eq-eqb, ne_eqb, and_parts, ltb-true, lt-ltb, false≢true}
use Rattle.swim_wire.specs.declared.update.Update.{Update}
use Rattle.swim_rules.specs.Rules.{rows}
use Rattle.swim_rules.specs.Rows.{remove_row}
use Rattle.swim_rules.proofs.Told.{rows-heard, rows-forget}
use Rattle.swim_gossip.specs.declared.buffer.Waiting.{Waiting}
use Rattle.swim_gossip.specs.Queue.{is_about_any, raise_all, without}
use Rattle.swim_wire.specs.declared.datagram.Datagram.{Datagram}
use Rattle.swim_member.specs.declared.state.Relay.{Relay}
use Rattle.swim_member.specs.declared.event.Event.{Event}
use Rattle.swim_member.specs.Machinery.Steps.{is_live, queue_after, apply, apply_all, changes_from, step_news}
use Rattle.swim_member.specs.Checks.{rules_of}
use Rattle.swim_member.specs.State.{State, Change, Heard, Forgot, Queued, Sent, Ticked, Relayed, Unrelayed}
use Rattle.swim_member.specs.Readings.{time, told_to_table, waiting_updates, times_sent, queue, state, about_others, carries_updates, is_relay, without_relay, open_relays}
use Rattle.swim_member.specs.Events.{Action, perform, changes_by, actions, Step, log_after, log_of, changes_of, state_of, answer, answer_in}

abbrev counted : (ℕ → ℕ) → List Update → List Waiting
counted f updates = map (λ (u : Update). record { update = u; count = f u.who }) updates

counted-apart : (f : ℕ → ℕ) (n : ℕ) (u : Update) (updates : List Update) → counted (λ y. cond (u.who == y) n (f y)) (about_others u.who updates ++ u ∷ []) ≡ without u.who (counted f updates) ++ record { update = u; count = n } ∷ []
counted-apart f n u [] = rw (eq-eqb u.who u.who refl) refl
counted-apart f n u (v ∷ updates) =
    elim (cases_Bool (v.who == u.who)) [
      | inl t ↦ rw t (counted-apart f n u updates)
      | inr k ↦ rw (k, ne_eqb u.who v.who (λ e. eqb-false v.who u.who k (sym e)), counted-apart f n u updates) refl
    ]

without-counted : (f : ℕ → ℕ) (x : ℕ) (updates : List Update) → counted f (about_others x updates) ≡ without x (counted f updates)
without-counted f x [] = refl
without-counted f x (u ∷ updates) =
    elim (cases_Bool (u.who == x)) [
      | inl t ↦ rw t (without-counted f x updates)
      | inr k ↦ rw (k, without-counted f x updates) refl
    ]

raised-counted : (f : ℕ → ℕ) (times_sent : List Update) (updates : List Update) → counted (λ y. cond (is_about_any y times_sent) (f y + 1) (f y)) updates ≡ map (raise_all times_sent) (counted f updates)
raised-counted f times_sent [] = refl
raised-counted f times_sent (u ∷ updates) = ap (λ rest. record { update = u; count = cond (is_about_any u.who times_sent) (f u.who + 1) (f u.who) } ∷ rest) (raised-counted f times_sent updates)

sent-counted : (f : ℕ → ℕ) (p : Datagram) (updates : List Update) → counted (λ y. cond (carries_updates p.kind && is_about_any y p.updates.items) (f y + 1) (f y)) updates ≡ queue_after p (counted f updates)
sent-counted f p updates = by_kind (carries_updates p.kind)
  where
    by_kind : (b : Bool) → counted (λ y. cond (b && is_about_any y p.updates.items) (f y + 1) (f y)) updates ≡ cond b (map (raise_all p.updates.items) (counted f updates)) (counted f updates)
    by_kind true = raised-counted f p.updates.items updates
    by_kind false = refl

pub filter-append : {X : Type 0} (p : X → Bool) (xs ys : List X) → filter p (xs ++ ys) ≡ filter p xs ++ filter p ys
filter-append p [] ys = refl
filter-append p (x ∷ xs) ys = elim (cases_Bool (p x)) [ inl t ↦ rw (t, filter-append p xs ys) refl | inr f ↦ rw (f, filter-append p xs ys) refl ]

-- a filter after a weaker one
pub filter-twice : {X : Type 0} (p q : X → Bool) → ((x : X) → p x ≡ true → q x ≡ true) → (xs : List X) → filter p (filter q xs) ≡ filter p xs
filter-twice p q h [] = refl
filter-twice p q h (x ∷ xs) = at (p x) (q x) refl refl (filter-twice p q h xs)
  where
    at : (a b : Bool) → p x ≡ a → q x ≡ b → filter p (filter q xs) ≡ filter p xs → filter p (cond b (x ∷ filter q xs) (filter q xs)) ≡ cond a (x ∷ filter p xs) (filter p xs)
    at true true e k r = rw (e, r) refl
    at true false e k r = absurd (false≢true (sym k ∙ h x e))
    at false true e k r = rw e r
    at false false e k r = r

still-live : (now period : ℕ) (r : Relay) → is_live (now + 1) period r ≡ true → is_live now period r ≡ true
still-live now period r h =
    let below : now + 1 - r.made < period = ltb-true (now + 1 - r.made) period h in lt-ltb (now - r.made) period (omega arith)

same_live : (now period : ℕ) (r q : Relay) → is_relay r q ≡ true → is_live now period r ≡ is_live now period q
same_live now period r q h =
    let made : (r.made == q.made) ≡ true = (and_parts (r.target == q.target && r.seq == q.seq && r.asker == q.asker && r.asked == q.asked) (r.made == q.made) h).1 in
    ap (λ n. nat_lt (now - n) period) (eqb-true r.made q.made made)

-- a relay that is not live is not among those that are
none-live : (now period : ℕ) (r : Relay) (made : List Relay) → is_live now period r ≡ false → without_relay r (filter (is_live now period) made) ≡ filter (is_live now period) made
none-live now period r [] h = refl
none-live now period r (q ∷ made) h = at (is_live now period q) (is_relay r q) refl refl (none-live now period r made h)
  where
    at : (a b : Bool) → is_live now period q ≡ a → is_relay r q ≡ b → without_relay r (filter (is_live now period) made) ≡ filter (is_live now period) made → without_relay r (cond a (q ∷ filter (is_live now period) made) (filter (is_live now period) made)) ≡ cond a (q ∷ filter (is_live now period) made) (filter (is_live now period) made)
    at true true e k rest = absurd (false≢true (sym h ∙ same_live now period r q k ∙ e))
    at true false e k rest = rw (k, rest) refl
    at false b e k rest = rest

pub without-filter : (now period : ℕ) (r : Relay) (made : List Relay) → filter (is_live now period) (without_relay r made) ≡ without_relay r (filter (is_live now period) made)
without-filter now period r [] = refl
without-filter now period r (q ∷ made) = at (is_relay r q) (is_live now period q) refl refl (without-filter now period r made)
  where
    at : (a b : Bool) → is_relay r q ≡ a → is_live now period q ≡ b → filter (is_live now period) (without_relay r made) ≡ without_relay r (filter (is_live now period) made) → filter (is_live now period) (cond a made (q ∷ without_relay r made)) ≡ without_relay r (cond b (q ∷ filter (is_live now period) made) (filter (is_live now period) made))
    at true true e k h = rw e refl
    at true false e k h = sym (none-live now period r made (same_live now period r q e ∙ k))
    at false true e k h = rw (e, k, h) refl
    at false false e k h = rw k h

-- the state read off changes by each happening as `apply` says
pub state-happening : (base : State) (log : List Change) (h : Change) → state base (h ∷ log) ≡ apply h (state base log)
state-happening base log (Heard u) = ap (λ r. record (state base log) { rows = r }) (rows-heard (rules_of base.settings) base.rows (told_to_table base log) u (time base log))
state-happening base log (Forgot x) =
    ap (λ r. record (state base log) { rows = r; queue = queue base (Forgot x ∷ log) }) (rows-forget (rules_of base.settings) base.rows (told_to_table base log) x)
    ∙ ap (λ q. record (state base log) { rows = remove_row (rows (rules_of base.settings) base.rows (told_to_table base log)) x; queue = q }) (without-counted (times_sent base log) x (waiting_updates base log))
state-happening base log (Queued u) = ap (λ q. record (state base log) { queue = q }) (counted-apart (times_sent base log) 0 u (waiting_updates base log))
state-happening base log (Sent to p) = ap (λ q. record (state base log) { queue = q }) (sent-counted (times_sent base log) p (waiting_updates base log))
state-happening base log Ticked =
    ap (λ r. record (state base log) { time = time base log + 1; relays = r })
    (sym (filter-twice (is_live (time base log + 1) base.settings.period) (is_live (time base log) base.settings.period) (still-live (time base log) base.settings.period) (open_relays base log)))
state-happening base log (Relayed r) = ap (λ q. record (state base log) { relays = q }) (filter-append (is_live (time base log) base.settings.period) (open_relays base log) (r ∷ []))
state-happening base log (Unrelayed r) = ap (λ q. record (state base log) { relays = q }) (without-filter (time base log) base.settings.period r (open_relays base log))
state-happening base log _ = refl

pub state-append : (base : State) (happened log : List Change) → state base (happened ++ log) ≡ apply_all happened (state base log)
state-append base [] log = refl
state-append base (h ∷ happened) log = state-happening base (happened ++ log) h ∙ ap (apply h) (state-append base happened log)

pub news-news_from : (base : State) (log : List Change) (actions : List Action) → changes_by base log actions ≡ changes_from (state base log) actions
news-news_from base log [] = refl
news-news_from base log (m ∷ actions) =
    ap (λ n. n ++ perform (state base log) m)
    (news-news_from base (perform (state base log) m ++ log) actions ∙ ap (λ s. changes_from s actions) (state-append base (perform (state base log) m) log))

pub news_of-step : (base : State) (steps : List Step) (event : Event) (granted : ℕ) (s : State) → state_of base steps ≡ s → changes_of base (log_of base steps) event granted ≡ step_news s event granted
news_of-step base steps event granted s h =
    news-news_from base (log_of base steps) (actions (state_of base steps) event granted) ∙ ap (λ t. step_news t event granted) h

pub log_after-snoc : (base : State) (log : List Change) (steps : List Step) (e : Step) → log_after base log (steps ++ e ∷ []) ≡ changes_of base (log_after base log steps) e.event e.granted ++ log_after base log steps
log_after-snoc base log [] e = refl
log_after-snoc base log (f ∷ steps) e = log_after-snoc base (changes_of base log f.event f.granted ++ log) steps e

-- the state after one more step
pub state_of-snoc : (base : State) (steps : List Step) (e : Step) (s : State) → state_of base steps ≡ s → state_of base (steps ++ e ∷ []) ≡ apply_all (step_news s e.event e.granted) s
state_of-snoc base steps e s h =
    ap (state base) (log_after-snoc base [] steps e)
    ∙ state-append base (changes_of base (log_of base steps) e.event e.granted) (log_of base steps)
    ∙ ap (λ n. apply_all n (state_of base steps)) (news_of-step base steps e.event e.granted s h)
    ∙ ap (apply_all (step_news s e.event e.granted)) h

-- the answer to one more step
pub answer-step : (base : State) (steps : List Step) (event : Event) (granted : ℕ) (s : State) → state_of base steps ≡ s → answer base steps event granted ≡ answer_in (step_news s event granted)
answer-step base steps event granted s h = ap answer_in (news_of-step base steps event granted s h)
