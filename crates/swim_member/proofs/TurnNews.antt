-- What an event does to the turn: nothing, a probe of the next listed member, or a new list.
use Rattle.std.proofs.Common.{◌≡◌, ◌≢◌, ℕ, ◌+◌, ◌≤◌, ◌==◌, Bool, true, false, cond, refl, sym, ◌∙◌, ap, subst, List, [], ◌∷◌, ◌++◌, map, length, drop, take, replicate, append_assoc, append-nil, Option, Some, None}
use Rattle.std.specs.List.{filter}
use Rattle.std.proofs.lemmas.List.{map-append}
use Rattle.swim_wire.specs.declared.datagram.Kind.{Kind}
use Rattle.swim_wire.specs.declared.datagram.Kind.TheVariants.{Ping}
use Rattle.swim_rules.specs.Rows.{AreInOrder}
use Rattle.swim_member.specs.declared.answer.Out.{Out}
use Rattle.swim_member.specs.declared.event.Event.{Event}
use Rattle.swim_member.specs.declared.event.Event.TheVariants as event
use Rattle.swim_member.specs.Judged as judged
use Rattle.swim_member.specs.declared.note.Note.TheVariants as note
use Rattle.swim_member.specs.declared.state.Phase.{Phase}
use Rattle.swim_member.specs.declared.state.Phase.TheVariants.{Running, Left, Expelled}
use Rattle.swim_member.specs.declared.tick.TheConstants.{LAST_TIME}
use Rattle.swim_rules.specs.Deals.{IsDeal}
use Rattle.swim_member.specs.State.{State, Change, Sent, Looked, Listed, Passed}
use Rattle.swim_member.specs.Readings.{state}
use Rattle.swim_member.specs.Member.{eligible, is_eligible_name}
use Rattle.swim_member.specs.Probe.{is_at}
use Rattle.swim_member.specs.OwnNumber.{own_number_by}
use Rattle.swim_member.specs.Turn.{still_listed, next_listed, passed_over, eligible_names, dealt, begin_turn, take_turn, look}
use Rattle.swim_member.specs.Looks.{lists_in, looks_in, is_ping, pinged_by, probed_at, is_among}
use Rattle.swim_member.specs.Judge.{judge_in}
use Rattle.swim_member.specs.Events.{Action, Advance, Expire, Forget, Blame, Probe_next, Ask, perform, outs, each_from, actions, actions_of}
use Rattle.swim_member.specs.Machinery.Steps.{apply_all, changes_from, step_news}
use Rattle.swim_member.proofs.Actions.{outs-append, apply_all-append, after-news, news-append}
use Rattle.swim_member.proofs.Logs.{filter-append, state-append}
use Rattle.swim_member.proofs.Dealing.{distinct-dealt, distinct-names}
use Rattle.swim_member.proofs.Showing.{Lacks, Turned, Pings, news-no, quiet-append, quiet-early, quiet-each, quiet-event, settled-other}
use Rattle.swim_member.proofs.FewRows.{order-read, few-from}
use Rattle.swim_member.proofs.TurnLists.{AreOnce, AreOut, drop-more, Found, found, missed, among-names, all-listed}

-- What happened

looks-append : (fs gs : List Change) → looks_in (fs ++ gs) ≡ looks_in gs ++ looks_in fs
looks-append [] gs = sym (append-nil (looks_in gs))
looks-append (Looked names ∷ fs) gs = ap (λ ns. ns ++ names ∷ []) (looks-append fs gs) ∙ append_assoc (looks_in gs) (looks_in fs) (names ∷ [])
looks-append (_ ∷ fs) gs = looks-append fs gs

lists-append : (fs gs : List Change) → lists_in (fs ++ gs) ≡ lists_in gs ++ lists_in fs
lists-append [] gs = sym (append-nil (lists_in gs))
lists-append (Listed names ∷ fs) gs = ap (λ ns. ns ++ names ∷ []) (lists-append fs gs) ∙ append_assoc (lists_in gs) (lists_in fs) (names ∷ [])
lists-append (_ ∷ fs) gs = lists-append fs gs

abbrev is_ping_out : Out → Bool
is_ping_out o = is_ping o.datagram.kind

abbrev pings : List Change → List ℕ
pings fs = pinged_by (outs fs)

pinged-append : (xs ys : List Out) → pinged_by (xs ++ ys) ≡ pinged_by xs ++ pinged_by ys
pinged-append xs ys =
    ap (map (λ (o : Out). o.to)) (filter-append is_ping_out xs ys) ∙ map-append (λ (o : Out). o.to) (filter is_ping_out xs) (filter is_ping_out ys)

pings-append : (fs gs : List Change) → pings (fs ++ gs) ≡ pings gs ++ pings fs
pings-append fs gs = ap pinged_by (outs-append fs gs) ∙ pinged-append (outs gs) (outs fs)

no-looks : (fs : List Change) → Lacks Turned fs → looks_in fs ≡ []
no-looks [] a = refl
no-looks (Looked names ∷ fs) a = absurd (a.0 refl)
no-looks (_ ∷ fs) a = no-looks fs a.1

no-lists : (fs : List Change) → Lacks Turned fs → lists_in fs ≡ []
no-lists [] a = refl
no-lists (Listed names ∷ fs) a = absurd (a.0 refl)
no-lists (_ ∷ fs) a = no-lists fs a.1

same-left : (fs : List Change) (s : State) → Lacks Turned fs → still_listed (apply_all fs s) ≡ still_listed s
same-left [] s a = refl
same-left (Looked names ∷ fs) s a = absurd (a.0 refl)
same-left (Listed names ∷ fs) s a = absurd (a.0 refl)
same-left (Passed n ∷ fs) s a = absurd (a.0 refl)
same-left (_ ∷ fs) s a = same-left fs s a.1

no-pings : (fs : List Change) → Lacks Pings fs → pings fs ≡ []
no-pings [] a = refl
no-pings (Sent to p ∷ fs) a =
    pinged-append (outs fs) (record { to = to; datagram = p } ∷ [])
    ∙ ap (λ xs. xs ++ pinged_by (record { to = to; datagram = p } ∷ [])) (no-pings fs a.1)
    ∙ alone p.kind refl
  where
    alone : (k : Kind) → p.kind ≡ k → pinged_by (record { to = to; datagram = p } ∷ []) ≡ []
    alone Ping e = absurd ((rw e at a.0) refl)
    alone _ e = rw e refl
no-pings (_ ∷ fs) a = no-pings fs a.1

-- Turns

-- a list that was made has just the members that were eligible, where a table has so many rows
abbrev pub IsAll : ℕ → List ℕ → List ℕ → Type 0
IsAll rows made names = rows ≤ 256 → (x : ℕ) → is_among x made ≡ is_among x names

-- what an event does to what is left of the list: from l, with these looks, these lists and these probes, to m
pub data Turn (rows : ℕ) (l : List ℕ) (looks lists : List (List ℕ)) (probed m : List ℕ) : Type 0 where
  Rests : looks ≡ [] → lists ≡ [] → probed ≡ [] → m ≡ l → Turn rows l looks lists probed m
  Goes_on : (over : List ℕ) (x : ℕ) (names : List ℕ) → l ≡ over ++ x ∷ m → AreOut over names → looks ≡ names ∷ [] → lists ≡ [] → probed ≡ x ∷ [] → Turn rows l looks lists probed m
  Begins : (made names : List ℕ) → AreOut l names → AreOnce made → IsAll rows made names → looks ≡ names ∷ [] → lists ≡ made ∷ [] → probed ≡ take 1 made → m ≡ drop 1 made → Turn rows l looks lists probed m

-- what happens at this state does that
abbrev Turns : State → List Change → Type 0
Turns s fs = Turn (length s.rows) (still_listed s) (looks_in fs) (lists_in fs) (pings fs) (still_listed (apply_all fs s))

pub turn-eq : (r : ℕ) (l k : List ℕ) (a b c d : List (List ℕ)) (p q m n : List ℕ) → k ≡ l → b ≡ a → d ≡ c → q ≡ p → n ≡ m → Turn r l a c p m → Turn r k b d q n
turn-eq r l k a b c d p q m n e f g h i t = rw (e, f, g, h, i) t

-- a look
look-turn : (s : State) (deal : List ℕ) → IsDeal deal → AreInOrder s.rows → Turns s (perform s (Probe_next deal))
look-turn s deal d order = at (is_at s 0)
  where
    out : next_listed s ≡ None → AreOut (still_listed s) (eligible_names s)
    out e y h = among-names y (eligible s) ∙ missed (is_eligible_name s) (still_listed s) e y h

    by_list : next_listed s ≡ None → (made : List ℕ) → AreOnce made → IsAll (length s.rows) made (eligible_names s) → Turns s (begin_turn s made ++ Looked (eligible_names s) ∷ [])
    by_list e [] a all = Begins [] (eligible_names s) (out e) a all refl refl refl refl
    by_list e (x ∷ names) a all = Begins (x ∷ names) (eligible_names s) (out e) a all refl refl refl refl

    by_next : (o : Option ℕ) → next_listed s ≡ o → Turns s (take_turn s deal o ++ Looked (eligible_names s) ∷ [])
    by_next None e =
        by_list e (dealt (eligible_names s) deal) (distinct-dealt (eligible_names s) (distinct-names s.rows order) deal d.once) (all-listed s.rows deal d)
    by_next (Some x) e =
        let f : Found (is_eligible_name s) (still_listed s) x = found (is_eligible_name s) (still_listed s) x e in
        Goes_on f.over x (eligible_names s)
        (f.is ∙ ap (λ m. f.over ++ x ∷ m) (sym (drop-more s.place (passed_over s + 1) s.listed)))
        (λ y h. among-names y (eligible s) ∙ f.none y h)
        refl refl refl

    at : (b : Bool) → Turns s (cond b (look s deal) [])
    at false = Rests refl refl refl refl
    at true = by_next (next_listed s) refl

-- what comes after a look changes nothing of the turn
turn-before : (s : State) (now late : List Change) → Lacks Turned late → Lacks Pings late → Turns s now → Turns s (late ++ now)
turn-before s now late a b t =
    turn-eq (length s.rows) (still_listed s) (still_listed s) (looks_in now) (looks_in (late ++ now)) (lists_in now) (lists_in (late ++ now))
    (pings now) (pings (late ++ now)) (still_listed (apply_all now s)) (still_listed (apply_all (late ++ now) s))
    refl
    (looks-append late now ∙ ap (λ x. looks_in now ++ x) (no-looks late a) ∙ append-nil (looks_in now))
    (lists-append late now ∙ ap (λ x. lists_in now ++ x) (no-lists late a) ∙ append-nil (lists_in now))
    (pings-append late now ∙ ap (λ x. pings now ++ x) (no-pings late b) ∙ append-nil (pings now))
    (ap still_listed (apply_all-append late now s) ∙ same-left late (apply_all now s) a)
    t

-- nor does what comes before it
turn-after : (s : State) (early now : List Change) → Lacks Turned early → Lacks Pings early → (length s.rows ≤ 256 → length (apply_all early s).rows ≤ 256) → Turns (apply_all early s) now → Turns s (now ++ early)
turn-after s early now a b few t =
    turn-eq (length s.rows) (still_listed (apply_all early s)) (still_listed s) (looks_in now) (looks_in (now ++ early)) (lists_in now) (lists_in (now ++ early))
    (pings now) (pings (now ++ early)) (still_listed (apply_all now (apply_all early s))) (still_listed (apply_all (now ++ early) s))
    (sym (same-left early s a))
    (looks-append now early ∙ ap (λ x. x ++ looks_in now) (no-looks early a))
    (lists-append now early ∙ ap (λ x. x ++ lists_in now) (no-lists early a))
    (pings-append now early ∙ ap (λ x. x ++ pings now) (no-pings early b))
    (ap still_listed (apply_all-append now early s))
    (by_rows t)
  where
    by_rows : {l : List ℕ} {looks lists : List (List ℕ)} {probed m : List ℕ} → Turn (length (apply_all early s).rows) l looks lists probed m → Turn (length s.rows) l looks lists probed m
    by_rows (Rests c d e f) = Rests c d e f
    by_rows (Goes_on over x names c d e f g) = Goes_on over x names c d e f g
    by_rows (Begins made names c d all e f g h) = Begins made names c d (λ n. all (few n)) e f g h

changes-append : (s : State) (ms more : List Action) → changes_from s (ms ++ more) ≡ changes_from (apply_all (changes_from s ms) s) more ++ changes_from s ms
changes-append s ms more = news-append s ms more ∙ ap (λ t. changes_from t more ++ changes_from s ms) (sym (after-news s ms))

-- a tick that counts
tick-turn : (base : State) (log : List Change) (n k : ℕ) (deal : List ℕ) → IsDeal deal → Turns (state base log) (changes_from (state base log) (Advance ∷ replicate n Expire ++ replicate k Forget ++ Blame ∷ Probe_next deal ∷ each_from 0 8 (λ j. Ask j)))
tick-turn base log n k deal d =
    let s : State = state base log in
    let first : List Action = Advance ∷ replicate n Expire ++ replicate k Forget in
    let asks : List Action = each_from 0 8 (λ j. Ask j) in
    let early : List Action = first ++ Blame ∷ [] in
    let before : List Change = changes_from s early in
    let t : State = apply_all before s in
    let looked : List Change = perform t (Probe_next deal) in
    let late : List Change = changes_from (apply_all looked t) asks in
    let order : AreInOrder t.rows = subst (λ (r : State). AreInOrder r.rows) (state-append base before log) (order-read base (before ++ log)) in
    let is : changes_from s (first ++ Blame ∷ Probe_next deal ∷ asks) ≡ (late ++ looked) ++ before =
    ap (changes_from s) (sym (append_assoc first (Blame ∷ []) (Probe_next deal ∷ asks))) ∙ changes-append s early (Probe_next deal ∷ asks) in
    subst (λ (fs : List Change). Turns s fs) (sym is)
    (turn-after s before (late ++ looked)
    (news-no Turned s early (quiet-append Turned first (Blame ∷ []) (quiet-early Turned (λ e. cc) n k) ((λ e. cc), tt)))
    (news-no Pings s early (quiet-append Pings first (Blame ∷ []) (quiet-early Pings (λ e. cc) n k) ((λ e. cc), tt)))
    (few-from base log early)
    (turn-before t looked late
    (news-no Turned (apply_all looked t) asks (quiet-each Turned (λ j. Ask j) (λ j. tt) 8 0))
    (news-no Pings (apply_all looked t) asks (quiet-each Pings (λ j. Ask j) (λ j. tt) 8 0))
    (look-turn t deal d order)))

-- What an event does to the turn

abbrev pub EventTurn : State → Event → ℕ → Type 0
EventTurn s e granted =
    Turn (length s.rows) (still_listed s) (looks_in (step_news s e granted)) (lists_in (step_news s e granted)) (probed_at e (outs (step_news s e granted))) (still_listed (apply_all (step_news s e granted) s))

-- an event that is no tick
rests : (s : State) (e : Event) (granted : ℕ) → ((deal : List ℕ) → e ≡ event.Tick deal → Turned ≢ Turned) → probed_at e (outs (step_news s e granted)) ≡ [] → EventTurn s e granted
rests s e granted other none =
    let quiet : Lacks Turned (step_news s e granted) =
    news-no Turned s (actions s e granted) (quiet-event Turned (λ e. cc) (λ e. cc) (λ e. cc) s e granted (λ p. settled-other Turned (λ e. cc) (λ e. cc) (own_number_by s p.updates.items)) other) in
    Rests (no-looks (step_news s e granted) quiet) (no-lists (step_news s e granted) quiet) none (same-left (step_news s e granted) s quiet)

pub event-turn : (base : State) (log : List Change) (e : Event) (granted : ℕ) → ((deal : List ℕ) → e ≡ event.Tick deal → IsDeal deal) → EventTurn (state base log) e granted
event-turn base log (event.Tick deal) granted d = by_phase (state base log).phase
  where
    by_time : (b : Bool) → Turns (state base log) (changes_from (state base log) (actions_of (cond b (judged.Note note.TimeOver) (judged.Tick deal)) granted))
    by_time true = Rests refl refl refl refl
    by_time false = tick-turn base log 256 256 deal (d deal refl)

    by_phase : (ph : Phase) → Turns (state base log) (changes_from (state base log) (actions_of (judge_in ph (state base log) (event.Tick deal)) granted))
    by_phase Running = by_time ((state base log).time == LAST_TIME)
    by_phase Left = Rests refl refl refl refl
    by_phase Expelled = Rests refl refl refl refl
event-turn base log (event.Datagram from bytes) granted d = rests (state base log) (event.Datagram from bytes) granted (λ deal e. absurd (cc)) refl
event-turn base log event.ReceiveFailed granted d = rests (state base log) event.ReceiveFailed granted (λ deal e. absurd (cc)) refl
event-turn base log (event.SendFailed count) granted d = rests (state base log) (event.SendFailed count) granted (λ deal e. absurd (cc)) refl
event-turn base log (event.Join peer) granted d = rests (state base log) (event.Join peer) granted (λ deal e. absurd (cc)) refl
event-turn base log event.Leave granted d = rests (state base log) event.Leave granted (λ deal e. absurd (cc)) refl
event-turn base log (event.Members cursor) granted d = rests (state base log) (event.Members cursor) granted (λ deal e. absurd (cc)) refl
