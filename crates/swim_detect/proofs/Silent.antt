-- Where nothing vouches for x nothing spares it, as long as it is eligible.
use Rattle.std.proofs.Common.{◌≡◌, ℕ, ◌+◌, ◌<◌, ◌≤◌, ◌==◌, nat_lt, nat_le, Bool, true, false, cond, ◌&&◌, not, refl, sym, ◌∙◌, ap, subst, inl, inr, ◌⊎◌, List, [], ◌∷◌, ◌++◌, map, replicate, length, Option, Some, None, arith}
use Rattle.std.specs.List.{find, slice_get, AllByRecursion}
use Rattle.std.proofs.lemmas.Bool.{cases_Bool, eqb-true, ltb-true, leb-true, and_parts, false≢true}
use Rattle.swim_wire.specs.declared.rules.Rules.{Rules}
use Rattle.swim_wire.specs.declared.rules.Rules.TheVariants.{One, Two}
use Rattle.swim_wire.specs.declared.update.Update.{Update}
use Rattle.swim_wire.specs.declared.update.UpdateKind.{UpdateKind}
use Rattle.swim_wire.specs.declared.update.UpdateKind.TheVariants.{Alive, Suspect, Confirm}
use Rattle.swim_wire.specs.declared.datagram.Datagram.{Datagram}
use Rattle.swim_wire.specs.declared.datagram.Kind.{Kind}
use Rattle.swim_wire.specs.declared.datagram.Kind.TheVariants.{Ping, PingReq, Ack, Join, Page}
use Rattle.swim_rules.specs.declared.table.Row.{Row}
use Rattle.swim_rules.specs.declared.table.Heard.{Heard as Hearing}
use Rattle.swim_rules.specs.declared.table.Heard.TheVariants as heard
use Rattle.swim_rules.specs.Rules.{beats, overrides}
use Rattle.swim_rules.specs.Rows.{row_of, answer_to, is_kind, is_due, confirm_of}
use Rattle.swim_rules.proofs.Hearing.{about-row_of}
use Rattle.swim_member.specs.declared.state.Phase.{Phase}
use Rattle.swim_member.specs.declared.state.Phase.TheVariants.{Running, Left, Expelled}
use Rattle.swim_member.specs.declared.state.Probe.{Probe}
use Rattle.swim_member.specs.declared.state.Relay.{Relay}
use Rattle.swim_member.specs.declared.state.Joining.{Joining}
use Rattle.swim_member.specs.declared.note.Note.TheVariants as note
use Rattle.swim_member.specs.declared.own_number.OwnNumber.{OwnNumber}
use Rattle.swim_member.specs.declared.own_number.OwnNumber.TheVariants.{Stays, Wanted, Confirmed}
use Rattle.swim_member.specs.Judged.{Judged}
use Rattle.swim_member.specs.Judged as judged
use Rattle.swim_member.specs.Checks.{AreSound, rules_of}
use Rattle.swim_member.specs.State.{State, Change, Heard, Queued, NumberRaised, Ticked, Probed, Joined, Looked, Noted}
use Rattle.swim_member.specs.Readings.{state}
use Rattle.swim_member.specs.Events.{Step, Action, Hear, Settle, Reply, Advance, Expire, Forget, Blame, Probe_next, Ask, Depart, Bye, Join_peer, Show, Take, perform, when_running, each_from, datagram_actions, actions_of, actions, changes_of, log_after, log_of}
use Rattle.swim_member.specs.Expiry.{expire_first, forget_first}
use Rattle.swim_member.specs.Hearing.{heard_with, hear_other}
use Rattle.swim_member.specs.OwnNumber.{own_with, hear_own}
use Rattle.swim_member.specs.Probe.{is_at, blame, suspect_target, suspect_of, ask, ask_one, helpers_about}
use Rattle.swim_member.specs.Send.{send}
use Rattle.swim_member.specs.Reply.{on_ack, reply}
use Rattle.swim_member.specs.Relay.{on_other_ack, on_relayed_ack, relay_ping, is_for, is_answered}
use Rattle.swim_member.specs.Join.{on_page, join_to, last_name}
use Rattle.swim_member.specs.Judge.{judge}
use Rattle.swim_member.specs.Leave.{bye}
use Rattle.swim_member.specs.Member.{is_eligible_name, eligible}
use Rattle.swim_member.specs.Turn.{next_listed, eligible_names, dealt, begin_turn, take_turn, look}
use Rattle.swim_member.specs.Machinery.Steps.{apply, apply_all, after, changes_from, step_news}
use Rattle.swim_member.proofs.Actions.{apply_all-append, after-append, after-news, news-append}
use Rattle.swim_member.proofs.Logs.{state-append, news-news_from}
use Rattle.swim_member.proofs.FewRows.{order-read, same_rows}
use Rattle.swim_member.proofs.Showing.{Lacks, Tells, news-no, quiet-each, settled-other}
use Rattle.swim_detect.specs.Causes.{Has}
use Rattle.swim_detect.specs.Finding.{is_eligible_row, IsConfirmed, is_waited_for, is_alive, takes_back, spares, NeverSpares, ticks_left, happened_in, IsShort, deadline}
use Rattle.swim_detect.specs.Silence.{IsSilentOn, HasAtLeast, IsSilence, SilentAreFound}
use Rattle.swim_detect.proofs.Views.{heard_view, view-heard, own-cases}
use Rattle.swim_detect.proofs.Outside.{Unspared}
use Rattle.swim_detect.proofs.Lists.{all-append, all-front, all-back, all-replicate, all-each}
use Rattle.swim_detect.proofs.Causing.{unheard, Ticks_hear, Was_due, Was_accused, heard-tick, there}
use Rattle.swim_detect.proofs.Caused.{row-all}
use Rattle.swim_detect.proofs.Found.{StepLess, step-on, FoundFrom, found-now, found-next, some-left, by_row, few-step, never, through-le, log-append}

-- Lists of changes

unspared-join : (x : ℕ) (s : State) (fs gs : List Change) → Unspared x (apply_all gs s) fs → Unspared x s gs → Unspared x s (fs ++ gs)
unspared-join x s [] gs h k = k
unspared-join x s (f ∷ fs) gs h k = (subst (λ t. spares x t f ≡ false) (sym (apply_all-append fs gs s)) h.0, unspared-join x s fs gs h.1 k)

unspared-cond : (x : ℕ) (s : State) (b : Bool) (fs gs : List Change) → (b ≡ true → Unspared x s fs) → (b ≡ false → Unspared x s gs) → Unspared x s (cond b fs gs)
unspared-cond x s true fs gs f g = f refl
unspared-cond x s false fs gs f g = g refl

-- Actions that spare nobody

and-false : (a b : Bool) → (a && false && b) ≡ false
and-false true b = refl
and-false false b = refl

and-last : (a : Bool) → (a && false) ≡ false
and-last true = refl
and-last false = refl

-- a Confirm takes nothing back
confirm-takes : (rules : Rules) (o : Option Row) (u : Update) → u.kind ≡ Confirm → takes_back rules o u ≡ false
confirm-takes rules None u e = refl
confirm-takes rules (Some r) u e = ap (λ k. not (is_kind Alive r.update.kind) && not (is_kind Confirm k) && overrides rules u r.update) e ∙ and-false (not (is_kind Alive r.update.kind)) (overrides rules u r.update)

spares-not : (x : ℕ) (s : State) (u : Update) → (u.who ≡ x → takes_back (rules_of s.settings) (row_of s.rows x) u ≡ false) → spares x s (Heard u) ≡ false
spares-not x s u f = at (u.who == x) refl
  where
    at : (b : Bool) → (u.who == x) ≡ b → (b && takes_back (rules_of s.settings) (row_of s.rows x) u) ≡ false
    at true e = f (eqb-true u.who x e)
    at false e = refl

unspared-expire : (x : ℕ) (s : State) (o : Option Row) → Unspared x s (expire_first o)
unspared-expire x s None = tt
unspared-expire x s (Some r) = (refl, (spares-not x s (confirm_of r) (λ e. confirm-takes (rules_of s.settings) (row_of s.rows x) (confirm_of r) refl), tt))

unspared-forget : (x : ℕ) (s : State) (o : Option Row) → Unspared x s (forget_first o)
unspared-forget x s None = tt
unspared-forget x s (Some r) = (refl, tt)

unspared-with : (x : ℕ) (s : State) (a : Hearing) (u : Update) → spares x s (Heard u) ≡ false → Unspared x s (heard_with a u)
unspared-with x s heard.Accepted u h = (refl, (h, tt))
unspared-with x s heard.Kept u h = (h, tt)
unspared-with x s heard.Unknown u h = tt
unspared-with x s heard.Full u h = (refl, tt)

unspared-blame : (x : ℕ) (s : State) → Unspared x s (perform s Blame)
unspared-blame x s = at (is_at s 0) s.probe
  where
    takes : (o : Option Row) (u : Update) → is_alive o ≡ true → takes_back (rules_of s.settings) o u ≡ false
    takes None u h = refl
    takes (Some t) u h = ap (λ b. not b && not (is_kind Confirm u.kind) && overrides (rules_of s.settings) u t.update) h

    of_kind : (q : Probe) (r : Row) (b : Bool) → row_of s.rows q.target ≡ Some r → is_kind Alive r.update.kind ≡ b → Unspared x s (cond b (hear_other s (suspect_of r)) [])
    of_kind q r false e k = tt
    of_kind q r true e k =
        unspared-with x s (answer_to (rules_of s.settings) s.rows (suspect_of r)) (suspect_of r)
        (spares-not x s (suspect_of r) (λ same. takes (row_of s.rows x) (suspect_of r)
        (ap (λ y. is_alive (row_of s.rows y)) (sym same ∙ about-row_of s.rows q.target r e) ∙ ap is_alive e ∙ k)))

    of_row : (q : Probe) (o : Option Row) → row_of s.rows q.target ≡ o → Unspared x s (suspect_target s o)
    of_row q None e = tt
    of_row q (Some r) e = of_kind q r (is_kind Alive r.update.kind) e refl

    of_answer : (q : Probe) (b : Bool) → Unspared x s (cond b [] (suspect_target s (row_of s.rows q.target)))
    of_answer q true = tt
    of_answer q false = of_row q (row_of s.rows q.target) refl

    at : (b : Bool) (o : Option Probe) → Unspared x s (cond b (blame s o) [])
    at false o = tt
    at true None = tt
    at true (Some q) = of_answer q q.answered

unspared-look : (x : ℕ) (s : State) (deal : List ℕ) → Unspared x s (look s deal)
unspared-look x s deal = by_next (next_listed s)
  where
    begun : (made : List ℕ) → Unspared x s (begin_turn s made ++ Looked (eligible_names s) ∷ [])
    begun [] = (and-false (is_waited_for x s.probe) (is_alive (row_of s.rows x)), (refl, (refl, tt)))
    begun (y ∷ names) = (refl, (and-false (is_waited_for x s.probe) (is_alive (row_of s.rows x)), (refl, (refl, (refl, (refl, tt))))))

    by_next : (o : Option ℕ) → Unspared x s (take_turn s deal o ++ Looked (eligible_names s) ∷ [])
    by_next (Some y) = (refl, (and-false (is_waited_for x s.probe) (is_alive (row_of s.rows x)), (refl, (refl, (refl, tt)))))
    by_next None = begun (dealt (eligible_names s) deal)

unspared-ask : (x : ℕ) (s : State) (k : ℕ) → Unspared x s (perform s (Ask k))
unspared-ask x s k = at (is_at s s.settings.direct) s.probe
  where
    of_helper : (q : Probe) (o : Option ℕ) → Unspared x s (ask_one s q o)
    of_helper q None = tt
    of_helper q (Some y) = (refl, tt)

    of_test : (q : Probe) (b : Bool) → Unspared x s (cond b (ask_one s q (slice_get (helpers_about s q.target) k)) [])
    of_test q true = of_helper q (slice_get (helpers_about s q.target) k)
    of_test q false = tt

    at : (b : Bool) (o : Option Probe) → Unspared x s (cond b (ask s o k) [])
    at false o = tt
    at true None = tt
    at true (Some q) = of_test q (not q.answered && is_eligible_name s q.target)

unspared-bye : (x : ℕ) (s : State) (k : ℕ) → Unspared x s (perform s (Bye k))
unspared-bye x s k = at (nat_le k s.settings.helpers) (slice_get (eligible s) k)
  where
    at : (b : Bool) (o : Option Row) → Unspared x s (cond b (bye s o) [])
    at false o = tt
    at true None = tt
    at true (Some r) = (refl, (refl, tt))

unspared-settle : (x : ℕ) (s : State) (own : OwnNumber) (granted : ℕ) → Unspared x s (perform s (Settle own granted))
unspared-settle x s Stays granted = tt
unspared-settle x s Confirmed granted = (refl, (refl, (refl, tt)))
unspared-settle x s (Wanted n) granted = unspared-cond x s (nat_le n granted) (Queued (own_with s Alive n) ∷ NumberRaised n ∷ []) (Noted note.SaveFailed ∷ []) (λ _. (refl, (refl, tt))) (λ _. (refl, tt))

-- neither an update nor a reply
abbrev IsHarmless : Action → Type 0
IsHarmless (Hear u) = ⊥
IsHarmless (Reply p) = ⊥
IsHarmless _ = Unit {0}

unspared-perform : (x : ℕ) (s : State) (m : Action) → IsHarmless m → Unspared x s (perform s m)
unspared-perform x s (Hear u) h = absurd h
unspared-perform x s (Reply p) h = absurd h
unspared-perform x s (Settle own granted) h = unspared-settle x s own granted
unspared-perform x s Advance h = (refl, tt)
unspared-perform x s Expire h = unspared-expire x s (find (is_due Suspect s.settings.suspect s.time) s.rows)
unspared-perform x s Forget h = unspared-forget x s (find (is_due Confirm s.settings.forget s.time) s.rows)
unspared-perform x s Blame h = unspared-blame x s
unspared-perform x s (Probe_next deal) h = unspared-cond x s (is_at s 0) (look s deal) [] (λ _. unspared-look x s deal) (λ _. tt)
unspared-perform x s (Ask k) h = unspared-ask x s k
unspared-perform x s Depart h = (refl, (refl, tt))
unspared-perform x s (Bye k) h = unspared-bye x s k
unspared-perform x s (Join_peer peer) h = unspared-cond x s (peer == s.settings.me) (Noted note.Misdirected ∷ []) (join_to s peer 0) (λ _. (refl, tt)) (λ _. (refl, (refl, (refl, tt))))
unspared-perform x s (Show cursor) h = (refl, tt)
unspared-perform x s (Take n) h = (refl, tt)

unspared-all : (x : ℕ) (ms : List Action) (s : State) → AllByRecursion IsHarmless ms → Unspared x s (changes_from s ms)
unspared-all x [] s h = tt
unspared-all x (m ∷ ms) s h =
    unspared-join x s (changes_from (apply_all (perform s m) s) ms) (perform s m) (unspared-all x ms (apply_all (perform s m) s) h.1) (unspared-perform x s m h.0)

harmless-tick : (n k : ℕ) (deal : List ℕ) → AllByRecursion IsHarmless (Advance ∷ replicate n Expire ++ replicate k Forget ++ Blame ∷ Probe_next deal ∷ each_from 0 8 (λ j. Ask j))
harmless-tick n k deal =
    all-append IsHarmless (Advance ∷ replicate n Expire ++ replicate k Forget) (Blame ∷ Probe_next deal ∷ each_from 0 8 (λ j. Ask j))
    (tt, all-append IsHarmless (replicate n Expire) (replicate k Forget) (all-replicate IsHarmless n Expire tt) (all-replicate IsHarmless k Forget tt))
    (tt, (tt, all-each IsHarmless 0 8 (λ j. Ask j) (λ j. tt)))

-- A reply

unspared-reply : (x n : ℕ) (s : State) (p : Datagram) → IsSilentOn x n p → Unspared x s (perform s (Reply p))
unspared-reply x n s p silent = by_phase s.phase
  where
    ping_req : (a b c : Bool) → Unspared x s (cond a (send s p.sender Ack p.seq s.settings.me ∷ []) (cond b (Noted note.UnknownTarget ∷ []) (cond c (Noted note.RelaysFull ∷ []) (relay_ping s p))))
    ping_req true b c = (refl, tt)
    ping_req false true c = (refl, tt)
    ping_req false false true = (refl, tt)
    ping_req false false false = (refl, (refl, (refl, tt)))

    relayed : (o : Option Relay) → Unspared x s (on_relayed_ack s p o)
    relayed None = (refl, tt)
    relayed (Some r) = (refl, (refl, tt))

    unwaited : (q : Probe) → s.probe ≡ Some q → p.kind ≡ Ack → is_for p q.seq q.target ≡ true → is_waited_for x s.probe ≡ false
    unwaited q e k f = ap (is_waited_for x) e ∙ at (q.target == x) refl
      where
        subject : p.subject ≡ q.target
        subject = eqb-true p.subject q.target ((and_parts (p.seq == q.seq) (p.subject == q.target) f).1)

        at : (b : Bool) → (q.target == x) ≡ b → (b && not q.answered) ≡ false
        at true g = absurd (silent.no_ack k (subject ∙ eqb-true q.target x g))
        at false g = refl

    acked : (o : Option Probe) → s.probe ≡ o → p.kind ≡ Ack → Unspared x s (on_ack s p o)
    acked None e k = relayed (find (is_answered p) s.relays)
    acked (Some q) e k =
        unspared-cond x s (is_for p q.seq q.target) (Probed (Some (record { target = q.target; seq = q.seq; answered = true })) ∷ []) (on_other_ack s p)
        (λ f. (ap (λ b. b && true && is_alive (row_of s.rows x)) (unwaited q e k f), tt))
        (λ _. relayed (find (is_answered p) s.relays))

    paged : (o : Option Joining) → Unspared x s (on_page s p o)
    paged None = (refl, tt)
    paged (Some j) = at (p.sender == j.peer && p.seq == j.seq && p.subject == j.cursor) (length p.updates.items == 30 && nat_lt j.cursor (last_name p.updates.items))
      where
        at : (a b : Bool) → Unspared x s (cond a (cond b (join_to s j.peer (last_name p.updates.items)) (Joined None ∷ [])) (Noted note.Unasked ∷ []))
        at true true = (refl, (refl, (refl, tt)))
        at true false = (refl, tt)
        at false b = (refl, tt)

    by_kind : (k : Kind) → p.kind ≡ k → Unspared x s (reply s k p)
    by_kind Ping e = unspared-cond x s (p.subject == s.settings.me) (send s p.sender Ack p.seq s.settings.me ∷ []) (Noted note.Misdirected ∷ []) (λ _. (refl, tt)) (λ _. (refl, tt))
    by_kind PingReq e = ping_req (p.subject == s.settings.me) (not (is_eligible_name s p.subject)) (length s.relays == 16)
    by_kind Ack e = acked s.probe refl e
    by_kind Join e = (refl, tt)
    by_kind Page e = paged s.joining

    by_phase : (ph : Phase) → Unspared x s (when_running ph (reply s p.kind p))
    by_phase Running = by_kind p.kind refl
    by_phase Left = tt
    by_phase Expelled = tt

-- Updates

-- what is held of x: a number of at least n, or by rules 1 a Confirm
abbrev IsHigh : ℕ → Rules → Row → Type 0
IsHigh n rules r = (n ≤ r.update.number) ⊎ ((r.update.kind ≡ Confirm) × (rules ≡ One))

-- what overrides has no smaller number, but for a Confirm by rules 1
beats-up : (rules : Rules) (k : UpdateKind) (i : ℕ) (l : UpdateKind) (j : ℕ) → beats rules k i l j ≡ true → (j ≤ i) ⊎ ((k ≡ Confirm) × (rules ≡ One))
beats-up One Alive i Alive j h = let a : j < i = ltb-true j i h in inl (omega arith)
beats-up One Alive i Suspect j h = let a : j < i = ltb-true j i h in inl (omega arith)
beats-up One Alive i Confirm j h = absurd (false≢true h)
beats-up One Suspect i Alive j h = let a : j ≤ i = leb-true j i h in inl (omega arith)
beats-up One Suspect i Suspect j h = let a : j < i = ltb-true j i h in inl (omega arith)
beats-up One Suspect i Confirm j h = absurd (false≢true h)
beats-up One Confirm i l j h = inr (refl, refl)
beats-up Two Alive i Alive j h = let a : j < i = ltb-true j i h in inl (omega arith)
beats-up Two Alive i Suspect j h = let a : j < i = ltb-true j i h in inl (omega arith)
beats-up Two Alive i Confirm j h = let a : j < i = ltb-true j i h in inl (omega arith)
beats-up Two Suspect i Alive j h = let a : j ≤ i = leb-true j i h in inl (omega arith)
beats-up Two Suspect i Suspect j h = let a : j < i = ltb-true j i h in inl (omega arith)
beats-up Two Suspect i Confirm j h = let a : j < i = ltb-true j i h in inl (omega arith)
beats-up Two Confirm i Alive j h = let a : j ≤ i = leb-true j i h in inl (omega arith)
beats-up Two Confirm i Suspect j h = let a : j ≤ i = leb-true j i h in inl (omega arith)
beats-up Two Confirm i Confirm j h = let a : j < i = ltb-true j i h in inl (omega arith)

-- by rules 1 nothing overrides a Confirm
never-over : (k : UpdateKind) (i j : ℕ) → beats One k i Confirm j ≡ false
never-over Alive i j = refl
never-over Suspect i j = refl
never-over Confirm i j = refl

-- an update with a number of at most n takes nothing back from what has at least n
low-takes : (rules : Rules) (n : ℕ) (r : Row) (u : Update) → IsHigh n rules r → (u.kind ≡ Confirm) ⊎ (u.number ≤ n) → takes_back rules (Some r) u ≡ false
low-takes rules n r u high (inl e) = confirm-takes rules (Some r) u e
low-takes rules n r u high (inr l) = by_kinds r.update.kind refl u.kind refl high
  where
    less : n ≤ r.update.number → nat_lt r.update.number u.number ≡ false
    less m = at (nat_lt r.update.number u.number) refl
      where
        at : (b : Bool) → nat_lt r.update.number u.number ≡ b → nat_lt r.update.number u.number ≡ false
        at false e = e
        at true e = let a : r.update.number < u.number = ltb-true r.update.number u.number e in absurd (omega arith)

    is : (rk uk : UpdateKind) → r.update.kind ≡ rk → u.kind ≡ uk → (not (is_kind Alive rk) && not (is_kind Confirm uk) && beats rules uk u.number rk r.update.number) ≡ false → takes_back rules (Some r) u ≡ false
    is rk uk e f h =
        ap (λ a. not (is_kind Alive a) && not (is_kind Confirm u.kind) && beats rules u.kind u.number a r.update.number) e
        ∙ ap (λ a. not (is_kind Alive rk) && not (is_kind Confirm a) && beats rules a u.number rk r.update.number) f ∙ h

    confirmed : (uk : UpdateKind) (rules : Rules) → (n ≤ r.update.number) ⊎ ((r.update.kind ≡ Confirm) × (rules ≡ One)) → (not (is_kind Confirm uk)) ≡ true → beats rules uk u.number Confirm r.update.number ≡ false
    confirmed uk One h c = never-over uk u.number r.update.number
    confirmed Alive Two (inl m) c = less m
    confirmed Suspect Two (inl m) c = less m
    confirmed Confirm Two (inl m) c = absurd (false≢true c)
    confirmed uk Two (inr h) c = absurd (other h.1)
      where
        other : Two ≡ One → ⊥
        other e = absurd (cc)

    by_kinds : (rk : UpdateKind) → r.update.kind ≡ rk → (uk : UpdateKind) → u.kind ≡ uk → IsHigh n rules r → takes_back rules (Some r) u ≡ false
    by_kinds Alive e uk f h = is Alive uk e f refl
    by_kinds Suspect e Confirm f h = is Suspect Confirm e f refl
    by_kinds Suspect e Alive f (inl m) = is Suspect Alive e f (less m)
    by_kinds Suspect e Suspect f (inl m) = is Suspect Suspect e f (less m)
    by_kinds Suspect e uk f (inr h) = absurd (apart (sym e ∙ h.0))
      where
        apart : Suspect ≡ Confirm → ⊥
        apart g = absurd (cc)
    by_kinds Confirm e Confirm f h = is Confirm Confirm e f refl
    by_kinds Confirm e Alive f h = is Confirm Alive e f (confirmed Alive rules h refl)
    by_kinds Confirm e Suspect f h = is Confirm Suspect e f (confirmed Suspect rules h refl)

-- x has a row, which is high
record Holds (n : ℕ) (x : ℕ) (s : State) : Type 0 where
  row : Row
  held : row_of s.rows x ≡ Some row
  high : IsHigh n (rules_of s.settings) row

high-heard : (n x : ℕ) (s : State) (u : Update) → Holds n x s → Holds n x (apply (Heard u) s)
high-heard n x s u h = at (u.who == x) refl
  where
    rules : Rules
    rules = rules_of s.settings

    view : (b : Bool) → (u.who == x) ≡ b → row_of (apply (Heard u) s).rows x ≡ cond b (heard_view rules u s.time (row_of s.rows x)) (row_of s.rows x)
    view b e = view-heard s u x ∙ ap (λ c. cond c (heard_view rules u s.time (row_of s.rows x)) (row_of s.rows x)) e

    new : Row
    new = record { update = u; since = s.time }

    rises : (q : Rules) → beats q u.kind u.number h.row.update.kind h.row.update.number ≡ true → IsHigh n q h.row → IsHigh n q new
    rises q b (inl m) = elim (beats-up q u.kind u.number h.row.update.kind h.row.update.number b) [
      | inl l ↦ inl (through n h.row.update.number u.number m l)
      | inr c ↦ inr c
    ]
      where
        through : (a b c : ℕ) → a ≤ b → b ≤ c → a ≤ c
        through a b c f g = omega arith
    rises One b (inr c) = absurd (false≢true (sym (ap (λ k. beats One u.kind u.number k h.row.update.number) c.0 ∙ never-over u.kind u.number h.row.update.number) ∙ b))
    rises Two b (inr c) = absurd (other c.1)
      where
        other : Two ≡ One → ⊥
        other e = absurd (cc)

    over : (b : Bool) → overrides rules u h.row.update ≡ b → row_of (apply (Heard u) s).rows x ≡ cond b (Some new) (Some h.row) → Holds n x (apply (Heard u) s)
    over true e v = record { row = new; held = v; high = rises rules e h.high }
    over false e v = record { row = h.row; held = v; high = h.high }

    at : (b : Bool) → (u.who == x) ≡ b → Holds n x (apply (Heard u) s)
    at true e = over (overrides rules u h.row.update) refl (view true e ∙ ap (heard_view rules u s.time) h.held)
    at false e = record { row = h.row; held = view false e ∙ h.held; high = h.high }

-- what an update does
record Hears (n x : ℕ) (s : State) (fs : List Change) : Type 0 where
  unspared : Unspared x s fs
  holds : Holds n x (apply_all fs s)

hear-silent : (n x : ℕ) (s : State) (u : Update) → (u.who ≡ x → (u.kind ≡ Confirm) ⊎ (u.number ≤ n)) → Holds n x s → Hears n x s (perform s (Hear u))
hear-silent n x s u low h = at (u.who == s.settings.me)
  where
    none : spares x s (Heard u) ≡ false
    none = spares-not x s u (λ same. ap (λ o. takes_back (rules_of s.settings) o u) h.held ∙ low-takes (rules_of s.settings) n h.row u h.high (low same))

    rows-same : (t : State) → t.rows ≡ s.rows → t.settings ≡ s.settings → Holds n x t
    rows-same t e f = record { row = h.row; held = ap (λ l. row_of l x) e ∙ h.held; high = subst (λ c. IsHigh n (rules_of c) h.row) (sym f) h.high }

    with_answer : (a : Hearing) → Hears n x s (heard_with a u)
    with_answer heard.Accepted =
        let k : Holds n x (apply (Heard u) s) = high-heard n x s u h in
        record { unspared = (refl, (none, tt)); holds = record { row = k.row; held = k.held; high = k.high } }
    with_answer heard.Kept = record { unspared = (none, tt); holds = high-heard n x s u h }
    with_answer heard.Unknown = record { unspared = tt; holds = h }
    with_answer heard.Full = record { unspared = (refl, tt); holds = rows-same (apply (Noted note.TableFull) s) refl refl }

    at : (b : Bool) → Hears n x s (cond b (hear_own (rules_of s.settings) s.number u) (hear_other s u))
    at true = own-cases (λ fs. Hears n x s fs) (record { unspared = tt; holds = h }) (λ m. record { unspared = (refl, tt); holds = rows-same (apply (Noted m) s) refl refl }) (rules_of s.settings) s.number u
    at false = with_answer (answer_to (rules_of s.settings) s.rows u)

hears-silent : (n x : ℕ) (us : List Update) (s : State) → AllByRecursion (λ (u : Update). u.who ≡ x → (u.kind ≡ Confirm) ⊎ (u.number ≤ n)) us → Holds n x s → Unspared x s (changes_from s (map (λ u. Hear u) us)) × Holds n x (after s (map (λ u. Hear u) us))
hears-silent n x [] s low h = (tt, h)
hears-silent n x (u ∷ us) s low h =
    let one : Hears n x s (perform s (Hear u)) = hear-silent n x s u low.0 h in
    let t : State = apply_all (perform s (Hear u)) s in
    let more = hears-silent n x us t low.1 one.holds in
    (unspared-join x s (changes_from t (map (λ v. Hear v) us)) (perform s (Hear u)) more.0 one.unspared, more.1)

-- A step

-- nothing in it spares x, and an x that is eligible after it has a number of at least n
record StepSilent (n x : ℕ) (s : State) (fs : List Change) : Type 0 where
  unspared : Unspared x s fs
  high : (r : Row) → row_of (apply_all fs s).rows x ≡ Some r → is_eligible_row (Some r) ≡ true → n ≤ r.update.number

step-silent : (n x : ℕ) (base : State) (log : List Change) (e : Step) → ((d : Datagram) → (own : OwnNumber) → judge (state base log) e.event ≡ judged.Datagram d own → IsSilentOn x n d) → HasAtLeast n (row_of (state base log).rows x) → is_eligible_row (row_of (state base log).rows x) ≡ true → StepSilent n x (state base log) (step_news (state base log) e.event e.granted)
step-silent n x base log e silent known now = by_judgement (judge s e.event) refl
  where
    s : State
    s = state base log

    to : (j : Judged) → judge s e.event ≡ j → StepSilent n x s (changes_from s (actions_of j e.granted)) → StepSilent n x s (step_news s e.event e.granted)
    to j h k = subst (λ i. StepSilent n x s (changes_from s (actions_of i e.granted))) (sym h) k

    came : (fs : List Change) (r : Row) → row_of (apply_all fs s).rows x ≡ Some r → (row_of s.rows x ≡ Some r) ⊎ Has (Heard r.update) fs
    came fs r k = row-all x r base log fs (ap (λ (t : State). row_of t.rows x) (state-append base fs log) ∙ k)

    -- by what tells no row
    quiet : (ms : List Action) → AllByRecursion IsHarmless ms → Lacks Tells (changes_from s ms) → StepSilent n x s (changes_from s ms)
    quiet ms h lacks = record {
      unspared = unspared-all x ms s h;
      high = λ r k m. elim (came (changes_from s ms) r k) [
        | inl i ↦ known r i
        | inr i ↦ absurd (unheard (changes_from s ms) lacks r.update i)
      ];
    }

    ticked : (deal : List ℕ) → StepSilent n x s (changes_from s (actions_of (judged.Tick deal) e.granted))
    ticked deal = record {
      unspared = unspared-all x (actions_of (judged.Tick deal) e.granted) s (harmless-tick 256 256 deal);
      high = λ r k m. elim (came (changes_from s (actions_of (judged.Tick deal) e.granted)) r k) [
        | inl i ↦ known r i
        | inr i ↦ heard_then r m (heard-tick s 256 256 deal r.update (order-read base log) i) k
      ];
    }
      where
        about : (r : Row) → row_of (apply_all (changes_from s (actions_of (judged.Tick deal) e.granted)) s).rows x ≡ Some r → r.update.who ≡ x
        about r k = about-row_of (apply_all (changes_from s (actions_of (judged.Tick deal) e.granted)) s).rows x r k

        heard_then : (r : Row) → is_eligible_row (Some r) ≡ true → Ticks_hear s r.update → row_of (apply_all (changes_from s (actions_of (judged.Tick deal) e.granted)) s).rows x ≡ Some r → n ≤ r.update.number
        heard_then r m (Was_due c) k = absurd (false≢true (sym (ap (λ d. not (is_kind Confirm d)) c.confirm) ∙ m))
        heard_then r m (Was_accused t l a) k =
            let before : row_of s.rows r.update.who ≡ Some a.row = there r.update.who (apply Ticked s) t a.row l a.held (ap (λ d. not (is_kind Confirm d)) a.alive) in
            subst (λ i. n ≤ i) a.number (known a.row (ap (row_of s.rows) (sym (about r k)) ∙ before))

    received : (p : Datagram) (own : OwnNumber) → IsSilentOn x n p → StepSilent n x s (changes_from s (datagram_actions p own e.granted))
    received p own quiet_on = by_row (row_of s.rows x) refl
      where
        hears : List Action
        hears = map (λ u. Hear u) p.updates.items

        t1 : State
        t1 = after s hears

        t2 : State
        t2 = apply_all (perform t1 (Settle own e.granted)) t1

        tail : List Action
        tail = Settle own e.granted ∷ Reply p ∷ []

        with_row : (r : Row) → row_of s.rows x ≡ Some r → StepSilent n x s (changes_from s (datagram_actions p own e.granted))
        with_row r k =
            let both = hears-silent n x p.updates.items s quiet_on.low (record { row = r; held = k; high = inl (known r k) }) in
            let holds : Holds n x t1 = both.1 in
            let late : Unspared x t1 (changes_from t1 tail) =
            unspared-join x t1 (perform t2 (Reply p)) (perform t1 (Settle own e.granted)) (unspared-reply x n t2 p quiet_on) (unspared-settle x t1 own e.granted) in
            record {
              unspared = subst (λ fs. Unspared x s fs) (sym (news-append s hears tail)) (unspared-join x s (changes_from t1 tail) (changes_from s hears) (subst (λ t. Unspared x t (changes_from t1 tail)) (sym (after-news s hears)) late) both.0);
              high = λ q i m. lifted holds q i m;
            }
          where
            rows-end : Lacks Tells (changes_from t1 tail)
            rows-end = news-no Tells t1 tail (settled-other Tells (λ e. cc) (λ e. cc) own, ((λ e. cc), tt))

            lifted : Holds n x t1 → (q : Row) → row_of (apply_all (changes_from s (datagram_actions p own e.granted)) s).rows x ≡ Some q → is_eligible_row (Some q) ≡ true → n ≤ q.update.number
            lifted holds q i m =
                let end : apply_all (changes_from s (datagram_actions p own e.granted)) s ≡ after t1 tail = after-news s (datagram_actions p own e.granted) ∙ after-append s hears tail in
                let same : (after t1 tail).rows ≡ t1.rows = ap (λ (t : State). t.rows) (sym (after-news t1 tail)) ∙ same_rows (changes_from t1 tail) t1 rows-end in
                let one : Some holds.row ≡ Some q = sym holds.held ∙ sym (ap (λ l. row_of l x) same) ∙ sym (ap (λ (t : State). row_of t.rows x) end) ∙ i in
                let is_one : holds.row ≡ q = cc in
                of_high (subst (λ (r : Row). IsHigh n (rules_of t1.settings) r) is_one holds.high)
              where
                of_high : IsHigh n (rules_of t1.settings) q → n ≤ q.update.number
                of_high (inl l) = l
                of_high (inr c) = absurd (false≢true (sym (ap (λ d. not (is_kind Confirm d)) c.0) ∙ m))

        by_row : (o : Option Row) → row_of s.rows x ≡ o → StepSilent n x s (changes_from s (datagram_actions p own e.granted))
        by_row None k = absurd (false≢true (sym (ap is_eligible_row k) ∙ now))
        by_row (Some r) k = with_row r k

    by_judgement : (j : Judged) → judge s e.event ≡ j → StepSilent n x s (step_news s e.event e.granted)
    by_judgement (judged.Note m) h = to (judged.Note m) h (quiet (Take m ∷ []) (tt, tt) (tt, tt))
    by_judgement (judged.Tick deal) h = to (judged.Tick deal) h (ticked deal)
    by_judgement (judged.Datagram p own) h = to (judged.Datagram p own) h (received p own (silent p own h))
    by_judgement (judged.Join peer) h = to (judged.Join peer) h (quiet (Join_peer peer ∷ []) (tt, tt) (news-no Tells s (Join_peer peer ∷ []) (tt, tt)))
    by_judgement judged.Leave h = to judged.Leave h (quiet (Depart ∷ each_from 0 9 (λ j. Bye j)) (tt, all-each IsHarmless 0 9 (λ j. Bye j) (λ j. tt)) (news-no Tells s (Depart ∷ each_from 0 9 (λ j. Bye j)) (tt, quiet-each Tells (λ j. Bye j) (λ j e. cc) 9 0)))
    by_judgement (judged.Members cursor) h = to (judged.Members cursor) h (quiet (Show cursor ∷ []) (tt, tt) ((λ e. cc), tt))

-- Over a stretch

never-read : (x : ℕ) (base : State) (log fs : List Change) → Unspared x (state base log) fs → NeverSpares x base log fs
never-read x base log [] h = tt
never-read x base log (f ∷ fs) h = (subst (λ t. spares x t f ≡ false) (sym (state-append base fs log)) h.0, never-read x base log fs h.1)

-- what holds of a member that was not found yet
pub record GoesOn (most x n until : ℕ) (s : State) : Type 0 where
  pub few : length s.rows ≤ 256
  pub known : HasAtLeast n (row_of s.rows x)
  pub on : is_eligible_name s x ≡ true
  pub low : s.time + ticks_left most x s ≤ until
  pub some : 1 ≤ ticks_left most x s

-- by these steps it is found, or goes on so
pub found-or-on : (most x n until : ℕ) (base : State) (log : List Change) (steps : List Step) → AreSound base.settings → length (state base log).rows ≤ 256 → IsSilence most x n base log steps
    → (state base log).time + ticks_left most x (state base log) ≤ until → FoundFrom x until base log steps ⊎ GoesOn most x n until (state base (log_after base log steps))
found-or-on most x n until base log [] sound few h low = elim (cases_Bool (is_eligible_name (state base log) x)) [
  | inl now ↦ inr (record { few = few; known = h.known; on = now; low = low; some = some-left most x base log sound (sym (by_row x base log) ∙ now) })
  | inr now ↦ inl (found-now x until (ticks_left most x (state base log)) base log [] low now)
]
found-or-on most x n until base log (e ∷ steps) sound few h low =
    let fs : List Change = changes_of base log e.event e.granted in
    let next : List Change = fs ++ log in
    let gs : List Change = happened_in base next steps in
    elim (cases_Bool (is_eligible_name (state base log) x)) [
      | inr now ↦ inl (found-now x until (ticks_left most x (state base log)) base log (e ∷ steps) low now)
      | inl now ↦
          let eligible-now : is_eligible_row (row_of (state base log).rows x) ≡ true = sym (by_row x base log) ∙ now in
          let news : fs ≡ step_news (state base log) e.event e.granted = news-news_from base log (actions (state base log) e.event e.granted) in
          let silence : StepSilent n x (state base log) fs = subst (StepSilent n x (state base log)) (sym news) (step-silent n x base log e h.silent.0 h.known eligible-now) in
          let one : StepLess most x (state base log) (state base next) = step-on most x base log e sound few eligible-now h.deals.0 (never-read x base log fs silence.unspared) (all-back (IsShort most) gs fs h.lists) in
          elim (cases_Bool (is_eligible_name (state base next) x)) [
            | inr gone ↦ inl (found-next most x until base log e steps sound now one gone low)
            | inl on ↦ elim one.less [
              | inl f ↦ absurd (false≢true (sym f ∙ sym (by_row x base next) ∙ on))
              | inr l ↦
                  let known : HasAtLeast n (row_of (state base next).rows x) = λ r k. silence.high r (sym (ap (λ (t : State). row_of t.rows x) (state-append base fs log)) ∙ k) (ap is_eligible_row (sym k) ∙ sym (by_row x base next) ∙ on) in
                  elim (found-or-on most x n until base next steps sound (few-step base log e few)
                  (record { deals = h.deals.1; silent = h.silent.1; lists = all-front (IsShort most) gs fs h.lists; known = known })
                  (through-le ((state base next).time + ticks_left most x (state base next)) ((state base log).time + ticks_left most x (state base log)) until l low)) [
                    | inl more ↦ inl (record { done = e ∷ more.done; rest = more.rest; parts = ap (λ l. e ∷ l) more.parts; found = more.found; confirmed = λ _. more.confirmed on; soon = more.soon })
                    | inr still ↦ inr still
                  ]
            ]
          ]
    ]

silent-from : (most x n until : ℕ) (base : State) (log : List Change) (steps : List Step) → AreSound base.settings → length (state base log).rows ≤ 256 → IsSilence most x n base log steps
    → (state base log).time + ticks_left most x (state base log) ≤ until → until ≤ (state base (log_after base log steps)).time → FoundFrom x until base log steps
silent-from most x n until base log steps sound few h low high = elim (found-or-on most x n until base log steps sound few h low) [
  | inl found ↦ found
  | inr still ↦ absurd (never (state base (log_after base log steps)).time (ticks_left most x (state base (log_after base log steps))) until still.some still.low high)
]

pub silent-found : (most x n : ℕ) (base : State) (before stretch : List Step) → SilentAreFound most x n base before stretch
silent-found most x n base before stretch h k high =
    let until : ℕ = deadline most x base before in
    let f : FoundFrom x until base (log_of base before) stretch =
    silent-from most x n until base (log_of base before) stretch h.sound h.few k (same-le until) (subst (λ l. until ≤ (state base l).time) (log-append base [] before stretch) high) in
    record {
      done = f.done;
      rest = f.rest;
      parts = f.parts;
      found = subst (λ l. is_eligible_name (state base l) x ≡ false) (sym (log-append base [] before f.done)) f.found;
      confirmed = λ on. subst (λ l. IsConfirmed x (state base l)) (sym (log-append base [] before f.done)) (f.confirmed on);
      soon = subst (λ l. (state base l).time ≤ until) (sym (log-append base [] before f.done)) f.soon;
    }
  where
    same-le : (a : ℕ) → a ≤ a
    same-le a = omega arith
