-- Which actions show a page, raise the own number, expel, change a row, take a turn or ping: all others do none of it.
use Rattle.std.proofs.Common.{◌≡◌, ◌≢◌, ℕ, ◌<◌, ◌≤◌, ◌^◌, arith, zero, suc, ◌+◌, ◌==◌, ◌&&◌, not, nat_lt, nat_le, Bool, true, false, cond, refl, ◌∙◌, ap, List, [], ◌∷◌, ◌++◌, map, replicate, length, Option, Some, None}
use Rattle.std.specs.List.{find, slice_get}
use Rattle.swim_wire.specs.declared.update.Update.{Update}
use Rattle.swim_wire.specs.declared.update.UpdateKind.TheVariants.{Alive, Suspect, Confirm}
use Rattle.swim_wire.specs.declared.datagram.Datagram.{Datagram}
use Rattle.swim_wire.specs.declared.datagram.Kind.{Kind}
use Rattle.swim_wire.specs.declared.datagram.Kind.TheVariants.{Ping, PingReq, Ack, Join, Page}
use Rattle.swim_rules.specs.declared.table.Row.{Row}
use Rattle.swim_rules.specs.declared.table.Heard.{Heard as Hearing}
use Rattle.swim_rules.specs.declared.table.Heard.TheVariants as heard
use Rattle.swim_rules.specs.Rows.{answer_to, is_kind, is_due, row_of}
use Rattle.swim_member.specs.declared.state.Phase.{Phase}
use Rattle.swim_member.specs.declared.state.Phase.TheVariants.{Running, Left, Expelled}
use Rattle.swim_member.specs.declared.state.Probe.{Probe}
use Rattle.swim_member.specs.declared.state.Relay.{Relay}
use Rattle.swim_member.specs.declared.state.Joining.{Joining}
use Rattle.swim_member.specs.declared.note.Note.TheVariants as note
use Rattle.swim_member.specs.Checks.{rules_of}
use Rattle.swim_member.specs.State.{State, Change, Heard, Forgot, Sent, Became, Queued, NumberRaised, Probed, Joined, Looked, Listed, Paged, Noted}
use Rattle.swim_member.specs.State as state
use Rattle.swim_member.specs.Events.{Action, Hear, Settle, Reply, Advance, Expire, Forget, Blame, Probe_next, Ask, Depart, Bye, Join_peer, Show, Take, perform, page, when_running, each_from, answer_in, datagram_actions, number_after}
use Rattle.swim_member.specs.Send.{send}
use Rattle.swim_member.specs.OwnNumber.{own_with, hear_own, asked, own_number_of, own_number_by, greatest_asked}
use Rattle.swim_member.specs.Hearing.{heard_with, hear_other}
use Rattle.swim_member.specs.Reply.{on_ping, on_ack, reply}
use Rattle.swim_member.specs.Relay.{on_ping_req, on_other_ack, on_relayed_ack, relay_ping, is_for, is_answered}
use Rattle.swim_member.specs.Join.{on_page, join_to, last_name}
use Rattle.swim_member.specs.Member.{is_eligible_name, eligible}
use Rattle.swim_member.specs.Expiry.{expire_first, forget_first}
use Rattle.swim_member.specs.Probe.{blame, suspect_target, suspect_of, ask, ask_one, helpers_about, is_at}
use Rattle.swim_member.specs.Turn.{next_listed, eligible_names, dealt, begin_turn, take_turn, look}
use Rattle.swim_member.specs.Leave.{bye}
use Rattle.swim_member.specs.declared.answer.Answer.{Answer}
use Rattle.swim_member.specs.declared.own_number.OwnNumber.{OwnNumber}
use Rattle.swim_member.specs.declared.own_number.OwnNumber.TheVariants.{Stays, Wanted, Confirmed}
use Rattle.swim_member.specs.declared.own_number.Suspicion.{Suspicion}
use Rattle.swim_member.specs.declared.own_number.Suspicion.TheVariants.{Passed, Leap, Last, Refutable}
use Rattle.swim_member.specs.Judged.{Judged}
use Rattle.swim_member.specs.Judged as judged
use Rattle.swim_member.specs.Judge.{number_wanted, MayAct, judge_stopped, judge_read, judge_bytes, judge_running, judge_in, refusal_of}
use Rattle.std.specs.Prelude.{IfSome}
use Rattle.swim_member.specs.OwnNumber.{note_of, suspicion_of, wanted_number}
use Rattle.swim_member.specs.Events.{actions_of, actions}
use Rattle.swim_member.specs.declared.event.Event.{Event}
use Rattle.swim_member.specs.declared.event.Event.TheVariants as event
use Rattle.swim_member.specs.declared.note.Note.{Note}
use Rattle.swim_member.specs.declared.tick.TheConstants.{LAST_TIME}
use Rattle.swim_wire.specs.Decoding.{decoded}
use Rattle.swim_wire.specs.declared.fault.WireFault.{WireFault}
use Rattle.swim_wire.specs.declared.rules.Rules.{Rules}
use Rattle.swim_wire.specs.declared.rules.Rules.TheVariants.{One, Two}
use Rattle.std.specs.Prelude.{Result, Ok, Err}
use Rattle.swim_member.specs.Machinery.Steps.{apply_all, after, changes_from, outs_by, notes_by, answer_by}
use Rattle.swim_member.proofs.Actions.{outs-news, notes-news, after-append}

-- what is looked for: a page that is shown, a number that is raised, an expulsion, a row that changes, a turn that is taken, a ping
pub data Mark : Type 0 where
  Shown : Mark
  Raised : Mark
  Expels : Mark
  Tells : Mark
  Turned : Mark
  Pings : Mark

abbrev LacksPing : Mark → Kind → Type 0
LacksPing w Ping = w ≢ Pings
LacksPing w _ = Unit {0}

-- this change is not marked so
abbrev pub Spares : Mark → Change → Type 0
Spares w (Paged updates) = w ≢ Shown
Spares w (NumberRaised n) = w ≢ Raised
Spares w (Became Expelled) = w ≢ Expels
Spares w (Heard u) = w ≢ Tells
Spares w (Forgot x) = w ≢ Tells
Spares w (Looked names) = w ≢ Turned
Spares w (Listed names) = w ≢ Turned
Spares w (state.Passed n) = w ≢ Turned
Spares w (Sent to p) = LacksPing w p.kind
Spares w _ = Unit {0}

-- nothing marked so is in the log
abbrev pub Lacks : Mark → List Change → Type 0
Lacks w [] = Unit {0}
Lacks w (c ∷ log) = Spares w c × Lacks w log

pub no-append : (w : Mark) (fs gs : List Change) → Lacks w fs → Lacks w gs → Lacks w (fs ++ gs)
no-append w [] gs a b = b
no-append w (_ ∷ fs) gs a b = (a.0, no-append w fs gs a.1 b)

no-page : (log : List Change) → Lacks Shown log → page log ≡ []
no-page [] a = refl
no-page (Paged updates ∷ log) a = absurd (a.0 refl)
no-page (_ ∷ log) a = no-page log a.1

no-number : (log : List Change) (s : State) → Lacks Raised log → (apply_all log s).number ≡ s.number
no-number [] s a = refl
no-number (NumberRaised n ∷ log) s a = absurd (a.0 refl)
no-number (_ ∷ log) s a = no-number log s a.1

no-expulsion : (log : List Change) (s : State) → Lacks Expels log → s.phase ≢ Expelled → (apply_all log s).phase ≢ Expelled
no-expulsion [] s a h = h
no-expulsion (Became Running ∷ log) s a h = λ e. cc
no-expulsion (Became Left ∷ log) s a h = λ e. cc
no-expulsion (Became Expelled ∷ log) s a h = absurd (a.0 refl)
no-expulsion (_ ∷ log) s a h = no-expulsion log s a.1 h

either : (w : Mark) → (b : Bool) (x y : List Change) → Lacks w x → Lacks w y → Lacks w (cond b x y)
either w true x y p q = p
either w false x y p q = q

note_of-no : (w : Mark) → (x : Suspicion) → Lacks w (note_of x)
note_of-no w Passed = tt
note_of-no w Leap = (tt, tt)
note_of-no w Last = (tt, tt)
note_of-no w Refutable = tt

own-no : (w : Mark) → (rules : Rules) (old : ℕ) (u : Update) → Lacks w (hear_own rules old u)
own-no w rules old u = note_of-no w (suspicion_of rules old u)

heard-no : (w : Mark) → w ≢ Tells → (h : Hearing) (u : Update) → Lacks w (heard_with h u)
heard-no w t heard.Accepted u = (tt, (t, tt))
heard-no w t heard.Kept u = (t, tt)
heard-no w t heard.Unknown u = tt
heard-no w t heard.Full u = (tt, tt)

-- what becomes of the own number is not marked so
abbrev pub IsSettled : Mark → OwnNumber → Type 0
IsSettled w Stays = Unit {0}
IsSettled w (Wanted n) = w ≢ Raised
IsSettled w Confirmed = w ≢ Expels

settle_number-no : (w : Mark) → (s : State) (own : OwnNumber) (granted : ℕ) → IsSettled w own → Lacks w (perform s (Settle own granted))
settle_number-no w s Stays granted h = tt
settle_number-no w s Confirmed granted h = (tt, (tt, (h, tt)))
settle_number-no w s (Wanted n) granted h = at (nat_le n granted)
  where
    at : (c : Bool) → Lacks w (cond c (Queued (own_with s Alive n) ∷ NumberRaised n ∷ []) (Noted note.SaveFailed ∷ []))
    at true = (tt, (h, tt))
    at false = (tt, tt)

ping-no : (w : Mark) → (s : State) (p : Datagram) → Lacks w (on_ping s p)
ping-no w s p = either w (p.subject == s.settings.me) (send s p.sender Ack p.seq s.settings.me ∷ []) (Noted note.Misdirected ∷ []) (tt, tt) (tt, tt)

ping_req-no : (w : Mark) → w ≢ Pings → (s : State) (p : Datagram) → Lacks w (on_ping_req s p)
ping_req-no w h s p = at (p.subject == s.settings.me) (not (is_eligible_name s p.subject)) (length s.relays == 16)
  where
    at : (a b c : Bool) → Lacks w (cond a (send s p.sender Ack p.seq s.settings.me ∷ []) (cond b (Noted note.UnknownTarget ∷ []) (cond c (Noted note.RelaysFull ∷ []) (relay_ping s p))))
    at true b c = (tt, tt)
    at false true c = (tt, tt)
    at false false true = (tt, tt)
    at false false false = (h, (tt, (tt, tt)))

other_ack-no : (w : Mark) → (s : State) (p : Datagram) → Lacks w (on_other_ack s p)
other_ack-no w s p = by_relay (find (is_answered p) s.relays)
  where
    by_relay : (o : Option Relay) → Lacks w (on_relayed_ack s p o)
    by_relay None = (tt, tt)
    by_relay (Some r) = (tt, (tt, tt))

ack-no : (w : Mark) → (s : State) (p : Datagram) (o : Option Probe) → Lacks w (on_ack s p o)
ack-no w s p None = other_ack-no w s p
ack-no w s p (Some q) =
    either w (is_for p q.seq q.target) (Probed (Some (record { target = q.target; seq = q.seq; answered = true })) ∷ []) (on_other_ack s p) (tt, tt) (other_ack-no w s p)

page-no : (w : Mark) → (s : State) (p : Datagram) (o : Option Joining) → Lacks w (on_page s p o)
page-no w s p None = (tt, tt)
page-no w s p (Some j) = at (p.sender == j.peer && p.seq == j.seq && p.subject == j.cursor) (length p.updates.items == 30 && nat_lt j.cursor (last_name p.updates.items))
  where
    at : (a b : Bool) → Lacks w (cond a (cond b (join_to s j.peer (last_name p.updates.items)) (Joined None ∷ [])) (Noted note.Unasked ∷ []))
    at true true = (tt, (tt, (tt, tt)))
    at true false = (tt, tt)
    at false b = (tt, tt)

reply-no : (w : Mark) → w ≢ Pings → (s : State) (p : Datagram) (phase : Phase) (kind : Kind) → Lacks w (when_running phase (reply s kind p))
reply-no w h s p Left kind = tt
reply-no w h s p Expelled kind = tt
reply-no w h s p Running Ping = ping-no w s p
reply-no w h s p Running PingReq = ping_req-no w h s p
reply-no w h s p Running Ack = ack-no w s p s.probe
reply-no w h s p Running Join = (tt, tt)
reply-no w h s p Running Page = page-no w s p s.joining

expire-no : (w : Mark) → w ≢ Tells → (o : Option Row) → Lacks w (expire_first o)
expire-no w h None = tt
expire-no w h (Some r) = (tt, (h, tt))

forget-no : (w : Mark) → w ≢ Tells → (o : Option Row) → Lacks w (forget_first o)
forget-no w h None = tt
forget-no w h (Some r) = (h, tt)

suspected-no : (w : Mark) → w ≢ Tells → (s : State) (o : Option Row) → Lacks w (suspect_target s o)
suspected-no w h s None = tt
suspected-no w h s (Some r) = either w (is_kind Alive r.update.kind) (hear_other s (suspect_of r)) [] (heard-no w h (answer_to (rules_of s.settings) s.rows (suspect_of r)) (suspect_of r)) tt

blame-no : (w : Mark) → w ≢ Tells → (s : State) (o : Option Probe) → Lacks w (blame s o)
blame-no w h s None = tt
blame-no w h s (Some q) = either w q.answered [] (suspect_target s (row_of s.rows q.target)) tt (suspected-no w h s (row_of s.rows q.target))

turn-no : (w : Mark) → (w ≢ Turned) × (w ≢ Pings) → (s : State) (deal : List ℕ) (o : Option ℕ) → Lacks w (take_turn s deal o)
turn-no w h s deal (Some x) = (h.1, (tt, (tt, (h.0, tt))))
turn-no w h s deal None = begun (dealt (eligible_names s) deal)
  where
    begun : (made : List ℕ) → Lacks w (begin_turn s made)
    begun [] = (tt, (h.0, tt))
    begun (x ∷ names) = (h.1, (tt, (tt, (h.0, (h.0, tt)))))

look-no : (w : Mark) → (w ≢ Turned) × (w ≢ Pings) → (s : State) (deal : List ℕ) → Lacks w (look s deal)
look-no w h s deal = no-append w (take_turn s deal (next_listed s)) (Looked (eligible_names s) ∷ []) (turn-no w h s deal (next_listed s)) (h.0, tt)

ask-no : (w : Mark) → (s : State) (o : Option Probe) (k : ℕ) → Lacks w (ask s o k)
ask-no w s None k = tt
ask-no w s (Some q) k = either w (not q.answered && is_eligible_name s q.target) (ask_one s q (slice_get (helpers_about s q.target) k)) [] (by_helper (slice_get (helpers_about s q.target) k)) tt
  where
    by_helper : (o : Option ℕ) → Lacks w (ask_one s q o)
    by_helper None = tt
    by_helper (Some x) = (tt, tt)

bye-no : (w : Mark) → w ≢ Pings → (s : State) (o : Option Row) → Lacks w (bye s o)
bye-no w h s None = tt
bye-no w h s (Some r) = (h, (tt, tt))

-- an action by which nothing marked so happens
abbrev pub IsQuiet : Mark → Action → Type 0
IsQuiet w (Show cursor) = w ≢ Shown
IsQuiet w (Settle own granted) = IsSettled w own
IsQuiet w (Hear u) = w ≢ Tells
IsQuiet w Expire = w ≢ Tells
IsQuiet w Forget = w ≢ Tells
IsQuiet w Blame = w ≢ Tells
IsQuiet w (Probe_next deal) = (w ≢ Turned) × (w ≢ Pings)
IsQuiet w (Reply p) = w ≢ Pings
IsQuiet w (Bye k) = w ≢ Pings
IsQuiet w _ = Unit {0}

abbrev pub AreQuiet : Mark → List Action → Type 0
AreQuiet w [] = Unit {0}
AreQuiet w (m ∷ ms) = IsQuiet w m × AreQuiet w ms

pub perform-no : (w : Mark) → (s : State) (m : Action) → IsQuiet w m → Lacks w (perform s m)
perform-no w s (Hear u) h = either w (u.who == s.settings.me) (hear_own (rules_of s.settings) s.number u) (hear_other s u) (own-no w (rules_of s.settings) s.number u) (heard-no w h (answer_to (rules_of s.settings) s.rows u) u)
perform-no w s (Settle own granted) h = settle_number-no w s own granted h
perform-no w s (Reply p) h = reply-no w h s p s.phase p.kind
perform-no w s Advance h = (tt, tt)
perform-no w s Expire h = expire-no w h (find (is_due Suspect s.settings.suspect s.time) s.rows)
perform-no w s Forget h = forget-no w h (find (is_due Confirm s.settings.forget s.time) s.rows)
perform-no w s Blame h = either w (is_at s 0) (blame s s.probe) [] (blame-no w h s s.probe) tt
perform-no w s (Probe_next deal) h = either w (is_at s 0) (look s deal) [] (look-no w h s deal) tt
perform-no w s (Ask k) h = either w (is_at s s.settings.direct) (ask s s.probe k) [] (ask-no w s s.probe k) tt
perform-no w s Depart h = (tt, (tt, tt))
perform-no w s (Bye k) h = either w (nat_le k s.settings.helpers) (bye s (slice_get (eligible s) k)) [] (bye-no w h s (slice_get (eligible s) k)) tt
perform-no w s (Join_peer peer) h = either w (peer == s.settings.me) (Noted note.Misdirected ∷ []) (join_to s peer 0) (tt, tt) (tt, (tt, (tt, tt)))
perform-no w s (Show cursor) h = (h, tt)
perform-no w s (Take n) h = (tt, tt)

pub news-no : (w : Mark) → (s : State) (ms : List Action) → AreQuiet w ms → Lacks w (changes_from s ms)
news-no w s [] h = tt
news-no w s (m ∷ ms) h =
    no-append w (changes_from (apply_all (perform s m) s) ms) (perform s m) (news-no w (apply_all (perform s m) s) ms h.1) (perform-no w s m h.0)

pub quiet-append : (w : Mark) → (fs gs : List Action) → AreQuiet w fs → AreQuiet w gs → AreQuiet w (fs ++ gs)
quiet-append w [] gs a b = b
quiet-append w (m ∷ fs) gs a b = (a.0, quiet-append w fs gs a.1 b)

quiet-hear : (w : Mark) → w ≢ Tells → (us : List Update) → AreQuiet w (map (λ u. Hear u) us)
quiet-hear w h [] = tt
quiet-hear w h (u ∷ us) = (h, quiet-hear w h us)

pub quiet-replicate : (w : Mark) → (m : Action) → IsQuiet w m → (n : ℕ) → AreQuiet w (replicate n m)
quiet-replicate w m h zero = tt
quiet-replicate w m h (suc n) = (h, quiet-replicate w m h n)

pub quiet-each : (w : Mark) → (f : ℕ → Action) → ((k : ℕ) → IsQuiet w (f k)) → (n k : ℕ) → AreQuiet w (each_from k n f)
quiet-each w f h zero k = tt
quiet-each w f h (suc n) k = (h k, quiet-each w f h n (k + 1))

pub settled-other : (w : Mark) → w ≢ Raised → w ≢ Expels → (own : OwnNumber) → IsSettled w own
settled-other w h k Stays = tt
settled-other w h k (Wanted n) = h
settled-other w h k Confirmed = k

pub quiet-received : (w : Mark) (p : Datagram) (own : OwnNumber) (granted : ℕ) → IsSettled w own → w ≢ Tells → w ≢ Pings → AreQuiet w (datagram_actions p own granted)
quiet-received w p own granted h k l =
    quiet-append w (map (λ u. Hear u) p.updates.items) (Settle own granted ∷ Reply p ∷ []) (quiet-hear w k p.updates.items) (h, (l, tt))

-- a datagram shows no page
pub page-received : (s : State) (p : Datagram) (own : OwnNumber) (granted : ℕ) → page (changes_from s (datagram_actions p own granted)) ≡ []
page-received s p own granted =
    no-page (changes_from s (datagram_actions p own granted)) (news-no Shown s (datagram_actions p own granted) (quiet-received Shown p own granted (settled-other Shown (λ e. cc) (λ e. cc) own) (λ e. cc) (λ e. cc)))

pub quiet-early : (w : Mark) → w ≢ Tells → (n k : ℕ) → AreQuiet w (Advance ∷ replicate n Expire ++ replicate k Forget)
quiet-early w h n k = (tt, quiet-append w (replicate n Expire) (replicate k Forget) (quiet-replicate w Expire h n) (quiet-replicate w Forget h k))

quiet-ticked : (w : Mark) → w ≢ Tells → (w ≢ Turned) × (w ≢ Pings) → (n k : ℕ) (deal : List ℕ) → AreQuiet w (Advance ∷ replicate n Expire ++ replicate k Forget ++ Blame ∷ Probe_next deal ∷ each_from 0 8 (λ j. Ask j))
quiet-ticked w h l n k deal =
    quiet-append w (Advance ∷ replicate n Expire ++ replicate k Forget) (Blame ∷ Probe_next deal ∷ each_from 0 8 (λ j. Ask j)) (quiet-early w h n k) (h, (l, quiet-each w (λ j. Ask j) (λ j. tt) 8 0))

-- nor does a tick
pub page-ticked : (s : State) (n k : ℕ) (deal : List ℕ) → page (changes_from s (Advance ∷ replicate n Expire ++ replicate k Forget ++ Blame ∷ Probe_next deal ∷ each_from 0 8 (λ j. Ask j))) ≡ []
page-ticked s n k deal =
    no-page (changes_from s (Advance ∷ replicate n Expire ++ replicate k Forget ++ Blame ∷ Probe_next deal ∷ each_from 0 8 (λ j. Ask j)))
    (news-no Shown s (Advance ∷ replicate n Expire ++ replicate k Forget ++ Blame ∷ Probe_next deal ∷ each_from 0 8 (λ j. Ask j)) (quiet-ticked Shown (λ e. cc) ((λ e. cc), (λ e. cc)) n k deal))

-- nor does a leave
pub page-left : (s : State) (n : ℕ) → page (changes_from s (Depart ∷ each_from 0 n (λ j. Bye j))) ≡ []
page-left s n = no-page (changes_from s (Depart ∷ each_from 0 n (λ j. Bye j))) (news-no Shown s (Depart ∷ each_from 0 n (λ j. Bye j)) (tt, quiet-each Shown (λ j. Bye j) (λ j e. cc) n 0))

-- nor does a join
pub page-joined : (s : State) (peer : ℕ) → page (changes_from s (Join_peer peer ∷ [])) ≡ []
page-joined s peer = no-page (changes_from s (Join_peer peer ∷ [])) (news-no Shown s (Join_peer peer ∷ []) (tt, tt))

-- an answer of these parts
pub answer-parts : (a : Answer) (s : State) (ms : List Action) → a.outs.items ≡ outs_by s ms → a.notes.items ≡ notes_by s ms → a.page.items ≡ page (changes_from s ms) → a ≡ answer_by s ms
answer-parts a s ms p q r =
    ap (λ o. record { outs = record { items = o }; notes = a.notes; page = a.page }) p
    ∙ ap (λ n. record { outs = record { items = outs_by s ms }; notes = record { items = n }; page = a.page }) q
    ∙ ap (λ us. record { outs = record { items = outs_by s ms }; notes = record { items = notes_by s ms }; page = record { items = us } }) r

pub answer-news : (s : State) (ms : List Action) → answer_in (changes_from s ms) ≡ answer_by s ms
answer-news s ms = answer-parts (answer_in (changes_from s ms)) s ms (outs-news s ms) (notes-news s ms) refl

-- The own number

number-perform : (s : State) (m : Action) → IsQuiet Raised m → (apply_all (perform s m) s).number ≡ s.number
number-perform s m h = no-number (perform s m) s (perform-no Raised s m h)

number-quiet : (s : State) (ms : List Action) → AreQuiet Raised ms → (after s ms).number ≡ s.number
number-quiet s [] h = refl
number-quiet s (m ∷ ms) h = number-quiet (apply_all (perform s m) s) ms h.1 ∙ number-perform s m h.0

number-settled : (s : State) (own : OwnNumber) (granted : ℕ) → (apply_all (perform s (Settle own granted)) s).number ≡ number_after (wanted_number own) granted s.number
number-settled s Stays granted = refl
number-settled s Confirmed granted = refl
number-settled s (Wanted n) granted = at (nat_le n granted)
  where
    at : (c : Bool) → (apply_all (cond c (Queued (own_with s Alive n) ∷ NumberRaised n ∷ []) (Noted note.SaveFailed ∷ [])) s).number ≡ cond c n s.number
    at true = refl
    at false = refl

number-received : (s : State) (p : Datagram) (own : OwnNumber) (granted : ℕ) → (after s (datagram_actions p own granted)).number ≡ number_after (wanted_number own) granted s.number
number-received s p own granted =
    let heard : State = after s (map (λ u. Hear u) p.updates.items) in
    let settled : State = apply_all (perform heard (Settle own granted)) heard in
    ap (λ (t : State). t.number) (after-append s (map (λ u. Hear u) p.updates.items) (Settle own granted ∷ Reply p ∷ []))
    ∙ number-perform settled (Reply p) (λ e. cc)
    ∙ number-settled heard own granted
    ∙ ap (λ n. number_after (wanted_number own) granted n) (number-quiet s (map (λ u. Hear u) p.updates.items) (quiet-hear Raised (λ e. cc) p.updates.items))

number-ticked : (s : State) (n k : ℕ) (deal : List ℕ) → (after s (Advance ∷ replicate n Expire ++ replicate k Forget ++ Blame ∷ Probe_next deal ∷ each_from 0 8 (λ j. Ask j))).number ≡ s.number
number-ticked s n k deal =
    number-quiet s (Advance ∷ replicate n Expire ++ replicate k Forget ++ Blame ∷ Probe_next deal ∷ each_from 0 8 (λ j. Ask j)) (quiet-ticked Raised (λ e. cc) ((λ e. cc), (λ e. cc)) n k deal)

-- the own number after an event, as it was judged
pub number-judged : (s : State) (j : Judged) (granted : ℕ) → (after s (actions_of j granted)).number ≡ number_after (number_wanted j) granted s.number
number-judged s (judged.Note n) granted = refl
number-judged s (judged.Tick deal) granted = number-ticked s 256 256 deal
number-judged s (judged.Datagram p own) granted = number-received s p own granted
number-judged s (judged.Join peer) granted = number-perform s (Join_peer peer) tt
number-judged s judged.Leave granted = number-quiet s (Depart ∷ each_from 0 9 (λ j. Bye j)) (tt, quiet-each Raised (λ j. Bye j) (λ j e. cc) 9 0)
number-judged s (judged.Members cursor) granted = refl

raised : (n g : ℕ) (o : Option ℕ) → IfSome o (λ w. (n < w) × (w ≤ 2 ^ 62)) → n ≤ number_after o g n
raised n g None h = omega arith
raised n g (Some w) h = at (nat_le w g) h.0
  where
    at : (b : Bool) → n < w → n ≤ cond b w n
    at true l = omega arith
    at false l = omega arith

-- it does not fall
pub number-grown : (s : State) (j : Judged) (g : ℕ) → MayAct s j → s.number ≤ number_after (number_wanted j) g s.number
number-grown s (judged.Datagram p own) g h = raised s.number g (wanted_number own) h.1
number-grown s _ g h = omega arith

-- what is wanted is not above the last
pub low-wanted : (n : ℕ) (o : Option ℕ) → IfSome o (λ w. (n < w) × (w ≤ 2 ^ 62)) → IfSome o (λ w. w ≤ 2 ^ 62)
low-wanted n None h = h
low-wanted n (Some w) h = h.1

-- The phase

phase-quiet : (s : State) (ms : List Action) → AreQuiet Expels ms → s.phase ≢ Expelled → (after s ms).phase ≢ Expelled
phase-quiet s [] q h = h
phase-quiet s (m ∷ ms) q h =
    phase-quiet (apply_all (perform s m) s) ms q.1 (no-expulsion (perform s m) s (perform-no Expels s m q.0) h)

settled-asked : (n : ℕ) → IsSettled Expels (asked n)
settled-asked n = at (n == 0)
  where
    at : (b : Bool) → IsSettled Expels (cond b Stays (Wanted n))
    at true = tt
    at false = λ e. cc

-- by rules 2 no updates expel
settled-two : (rules : Rules) (me old : ℕ) (updates : List Update) → rules ≡ Two → IsSettled Expels (own_number_of rules me old updates)
settled-two One me old updates e = absurd (cc)
settled-two Two me old updates e = settled-asked (greatest_asked Two me old updates)

-- an event does nothing marked so, where its datagram asks for nothing so and its tick may take a turn
pub quiet-event : (w : Mark) → w ≢ Shown → w ≢ Tells → w ≢ Pings → (s : State) (e : Event) (granted : ℕ) → ((p : Datagram) → IsSettled w (own_number_by s p.updates.items)) → ((deal : List ℕ) → e ≡ event.Tick deal → w ≢ Turned) → AreQuiet w (actions s e granted)
quiet-event w shown tells pings s e granted own turned = by_phase s.phase e turned
  where
    stopped : (e : Event) → AreQuiet w (actions_of (judge_stopped e) granted)
    stopped (event.Members cursor) = (shown, tt)
    stopped _ = (tt, tt)

    read : (p : Datagram) (refusal : Option Note) → AreQuiet w (actions_of (judge_read s p refusal) granted)
    read p (Some n) = (tt, tt)
    read p None = quiet-received w p (own_number_by s p.updates.items) granted (own p) tells pings

    received : (from : ℕ) (bytes : Result Datagram WireFault) → AreQuiet w (actions_of (judge_bytes s from bytes) granted)
    received from (Err fault) = (tt, tt)
    received from (Ok p) = read p (refusal_of s.settings from p)

    ticked : (deal : List ℕ) (b : Bool) → w ≢ Turned → AreQuiet w (actions_of (cond b (judged.Note note.TimeOver) (judged.Tick deal)) granted)
    ticked deal true h = (tt, tt)
    ticked deal false h = quiet-ticked w tells (h, pings) 256 256 deal

    running : (e : Event) → ((deal : List ℕ) → e ≡ event.Tick deal → w ≢ Turned) → AreQuiet w (actions_of (judge_running s e) granted)
    running (event.Tick deal) h = ticked deal (s.time == LAST_TIME) (h deal refl)
    running (event.Datagram from bytes) h = received from (decoded bytes.items)
    running event.ReceiveFailed h = (tt, tt)
    running (event.SendFailed count) h = (tt, tt)
    running (event.Join peer) h = (tt, tt)
    running event.Leave h = (tt, quiet-each w (λ j. Bye j) (λ j. pings) 9 0)
    running (event.Members cursor) h = (shown, tt)

    by_phase : (phase : Phase) (e : Event) → ((deal : List ℕ) → e ≡ event.Tick deal → w ≢ Turned) → AreQuiet w (actions_of (judge_in phase s e) granted)
    by_phase Running e h = running e h
    by_phase Left e h = stopped e
    by_phase Expelled e h = stopped e

-- by rules 2 no event does
pub phase-stays : (s : State) (e : Event) (granted : ℕ) → rules_of s.settings ≡ Two → s.phase ≢ Expelled → (after s (actions s e granted)).phase ≢ Expelled
phase-stays s e granted two h =
    phase-quiet s (actions s e granted) (quiet-event Expels (λ e. cc) (λ e. cc) (λ e. cc) s e granted (λ p. settled-two (rules_of s.settings) s.settings.me s.number p.updates.items two) (λ deal same e. cc)) h
