-- What a joiner asked, put together.
use Rattle.std.proofs.Common.{◌≡◌, ◌⊎◌, inl, inr, ℕ, ◌+◌, List, [], ◌∷◌, ◌++◌, length, refl, ap, sym, subst, ◌∙◌, slice_index_or, zero, suc, ◌<◌, Bool, true, false, IsTrue, IsFalse, take, arith, rules, tests, length-append, ◌↔◌, ◌≤◌, ◌-◌, ◌==◌}
use Rattle.std.proofs.lemmas.List.{append-nil}
use Rattle.swim_wire.specs.declared.update.Update.{Update}
use Rattle.std.specs.Prelude.{Some, None, Result, Ok, Err, IfOk, IfErr, OnOk}
use Rattle.swim_member.specs.declared.event.Event.{Event}
use Rattle.swim_member.specs.declared.event.Event.TheVariants.{Join, Members}
use Rattle.std.proofs.lemmas.Bool.Decides.{nat_tests}
use Rattle.swim_wire.specs.declared.datagram.TheConstants.{UPDATES_MAX}
use Rattle.swim_wire.specs.declared.update.TheConstants.{MEMBERS_MAX}
use Rattle.swim_news.specs.declared.rows.TheConstants.{PAGES_MAX}
use Rattle.swim_news.specs.News.{AreFrom}
use Rattle.swim_node.specs.declared.entry.Entry.{Entry}
use Rattle.swim_node.specs.declared.entry.Reply.{Reply}
use Rattle.swim_shell.specs.declared.caller.Refusal.{Refusal}
use Rattle.swim_shell.specs.Calls.{CallerView, events_of, NewCall, Refuses}
use Rattle.swim_join.specs.Joins.{JoinerView, IsNext, IsPeer, IsEligibleIn, IsShownAs, IsDrawnFrom, IsFailedFrom, IsFindable, is_held, IsAsked, AreAsked, Asks, AsksInVain, pages_of, AreWhole, AreFull, AreConsecutive, AreAllPages, AreLooks, Looks, LooksAll, LooksInVain, ReadsPage, place_after}
use Rattle.swim_join.specs.declared.intervals.Moment.{Moment}
use Rattle.swim_join.specs.Turns.{JoinsIf, JoinsPeer, LooksRound, TellsDue, after_look, joined_drawn, joined_drawn_by}
use Rattle.swim_shell.proofs.News.{events_of-append, no_gain, more_gains}
use Rattle.swim_news.proofs.Order.{from-left}
use Rattle.std.proofs.lemmas.List.{append_assoc}

-- Rows.

pub shown-left : (held : Bool) (rows more : List Update) (x : ℕ) → IsShownAs held rows x → IsShownAs held (rows ++ more) x
shown-left held [] more x is = absurd is
shown-left held (r ∷ rows) more x (inl is) = inl is
shown-left held (r ∷ rows) more x (inr is) = inr (shown-left held rows more x is)

pub shown-right : (held : Bool) (rows more : List Update) (x : ℕ) → IsShownAs held more x → IsShownAs held (rows ++ more) x
shown-right held [] more x is = is
shown-right held (r ∷ rows) more x is = inr (shown-right held rows more x is)

pub shown-append : (held : Bool) (rows more : List Update) (x : ℕ) → IsShownAs held (rows ++ more) x → IsShownAs held rows x ⊎ IsShownAs held more x
shown-append held [] more x is = inr is
shown-append held (r ∷ rows) more x (inl is) = inl (inl is)
shown-append held (r ∷ rows) more x (inr is) = elim (shown-append held rows more x is) [ inl a ↦ inl (inr a) | inr b ↦ inr b ]

pub eligible_at : (rows : List Update) (i : ℕ) (row : Update) → i < length rows → row ≡ slice_index_or rows i row → is_held row.kind ≡ true → IsEligibleIn rows row.who
eligible_at [] i row less is kind = absurd omega (arith, less)
eligible_at (r ∷ rows) zero row less is kind = inl (ap (λ u. u.who) (sym is), subst (λ u. is_held u.kind ≡ true) is kind)
eligible_at (r ∷ rows) (suc i) row less is kind = inr (eligible_at rows i row (omega (arith, less)) is kind)

-- a row of a page was added or left out
pub shown_added : (old rows new page : List Update) (i : ℕ) (row : Update) (added : Bool) → ((held : Bool) (x : ℕ) → IsShownAs held rows x → IsShownAs held old x ⊎ IsShownAs held (take i page) x) → (IsTrue added → new ≡ rows ++ row ∷ []) → (IsFalse added → new ≡ rows) → take (i + 1) page ≡ take i page ++ row ∷ [] → (held : Bool) (x : ℕ) → IsShownAs held new x → IsShownAs held old x ⊎ IsShownAs held (take (i + 1) page) x
shown_added old rows new page i row true so_far more same next held x is = elim (shown-append held rows (row ∷ []) x (subst (λ w. IsShownAs held w x) (more refl) is)) [ inl before ↦ elim (so_far held x before) [ inl a ↦ inl a | inr b ↦ inr (subst (λ w. IsShownAs held w x) (sym next) (shown-left held (take i page) (row ∷ []) x b)) ] | inr now ↦ inr (subst (λ w. IsShownAs held w x) (sym next) (shown-right held (take i page) (row ∷ []) x now)) ]
shown_added old rows new page i row false so_far more same next held x is = elim (so_far held x (subst (λ w. IsShownAs held w x) (same refl) is)) [ inl a ↦ inl a | inr b ↦ inr (subst (λ w. IsShownAs held w x) (sym next) (shown-left held (take i page) (row ∷ []) x b)) ]

-- Calls.

asked_append : (j : JoinerView) (rows : List Update) (es fs : List Entry) → AreAsked j rows es → AreAsked j (rows ++ pages_of es) fs → AreAsked j rows (es ++ fs)
asked_append j rows [] fs a b = subst (λ w. AreAsked j w fs) (append-nil rows) b
asked_append j rows (e ∷ es) fs a b = (a.0, asked_append j (rows ++ e.reply.page.items) es fs a.1 (subst (λ w. AreAsked j w fs) (sym (append_assoc rows e.reply.page.items (pages_of es))) b))

looks_asked : (j : JoinerView) (rows : List Update) (es : List Entry) → AreLooks es → AreAsked j rows es
looks_asked j rows [] l = tt
looks_asked j rows (e ∷ es) l = (subst (λ w. IsAsked j rows w) (sym l.0.1) tt, looks_asked j (rows ++ e.reply.page.items) es l.1)

pub asks_nothing : (j : JoinerView) (p : CallerView) → Asks j p p
asks_nothing j p = record { entries = []; gains = no_gain p; asked = sym (append-nil p.asked); are_asked = tt }

asks_one : (j : JoinerView) (p q : CallerView) (x : ℕ) (reply : Reply) → IsAsked j j.looked (Join x) → NewCall p q (Join x) reply → Asks j p q
asks_one j p q x reply known n = record {
  entries = n.entry ∷ [];
  gains = n.gains;
  asked = n.asked ∙ ap (λ e. p.asked ++ e ∷ []) (sym n.event_is);
  are_asked = (subst (λ w. IsAsked j j.looked w) (sym n.event_is) known, tt);
}

one_in_vain : (limit : ℕ) (why : Refusal) (j : JoinerView) (p q : CallerView) (x : ℕ) → ((rows : List Update) → IsAsked j rows (Join x)) → Refuses limit why p q (Join x) → AsksInVain limit why j p q
one_in_vain limit why j p q x known refused = let asks = asks_nothing j p in record { between = p; asks = asks; last = Join x; is_asked = known (j.looked ++ pages_of asks.entries); refused = refused }

-- the peer that comes next
pub asks_next : (j : JoinerView) (p q : CallerView) (x : ℕ) (reply : Reply) → IsNext j.peers x → NewCall p q (Join x) reply → Asks j p q
asks_next j p q x reply is n = asks_one j p q x reply (inl (inl (j.peers.next, is))) n

pub asks_next_in_vain : (limit : ℕ) (why : Refusal) (j : JoinerView) (p q : CallerView) (x : ℕ) → IsNext j.peers x → Refuses limit why p q (Join x) → AsksInVain limit why j p q
asks_next_in_vain limit why j p q x is refused = one_in_vain limit why j p q x (λ rows. inl (inl (j.peers.next, is))) refused

-- the drawn member whose join is due
pub asks_drawn : (j : JoinerView) (p q : CallerView) (x : ℕ) (reply : Reply) → j.drawn ≡ Some x → NewCall p q (Join x) reply → Asks j p q
asks_drawn j p q x reply is n = asks_one j p q x reply (inr is) n

pub asks_drawn_in_vain : (limit : ℕ) (why : Refusal) (j : JoinerView) (p q : CallerView) (x : ℕ) → j.drawn ≡ Some x → Refuses limit why p q (Join x) → AsksInVain limit why j p q
asks_drawn_in_vain limit why j p q x is refused = one_in_vain limit why j p q x (λ rows. inr is) refused

-- a look
pub asks_looks : (j : JoinerView) (p q : CallerView) (rows : List Update) → Looks j.looked p q rows → Asks j p q
asks_looks j p q rows l = record { entries = l.entries; gains = l.gains; asked = l.asked; are_asked = looks_asked j j.looked l.entries l.looks }

pub looks_in_vain : (limit : ℕ) (why : Refusal) (j : JoinerView) (p q : CallerView) (rows : List Update) → LooksInVain limit why j.looked p q rows → AsksInVain limit why j p q
looks_in_vain limit why j p q rows l = record { between = l.between; asks = asks_looks j p l.between rows l.looks; last = Members (place_after rows); is_asked = tt; refused = l.refused }

-- who may be joined after a look: the drawn member whose join is due, or one that was found
abbrev pub IsKnown : JoinerView → List Update → ℕ → Type 0
IsKnown j rows x = (j.drawn ≡ Some x) ⊎ IsFindable j rows x

seen_or_read : (held : Bool) (j : JoinerView) (p q : CallerView) (rows : List Update) (x : ℕ) → (l : Looks j.looked p q rows) → IsShownAs held rows x → IsShownAs held (j.looked ++ pages_of l.entries) x
seen_or_read held j p q rows x l is = elim (l.read held x is) [ inl a ↦ shown-left held j.looked (pages_of l.entries) x a | inr b ↦ shown-right held j.looked (pages_of l.entries) x b ]

shown : (j : JoinerView) (p q : CallerView) (rows : List Update) (x : ℕ) → (l : Looks j.looked p q rows) → IsKnown j rows x → IsAsked j (j.looked ++ pages_of l.entries) (Join x)
shown j p q rows x l (inl due) = inr due
shown j p q rows x l (inr (inl listed)) = inl (inl listed)
shown j p q rows x l (inr (inr (inl drawn))) = inl (inr (inl (seen_or_read true j p q rows x l drawn.0, drawn.1)))
shown j p q rows x l (inr (inr (inr failed))) = inl (inr (inr (seen_or_read false j p q rows x l failed.0, failed.1)))

-- a look, and a join that was answered or refused
look_joins : (j : JoinerView) (p q r : CallerView) (rows : List Update) (x : ℕ) (reply : Reply) → Looks j.looked p q rows → IsKnown j rows x → NewCall q r (Join x) reply → Asks j p r
look_joins j p q r rows x reply l known n = record {
  entries = l.entries ++ n.entry ∷ [];
  gains = more_gains p q r l.entries (n.entry ∷ []) l.gains n.gains;
  asked = n.asked ∙ (ap (λ w. w ++ Join x ∷ []) l.asked ∙ (append_assoc p.asked (events_of l.entries) (Join x ∷ []) ∙ ap (λ w. p.asked ++ w) (ap (λ e. events_of l.entries ++ e ∷ []) (sym n.event_is) ∙ sym (events_of-append l.entries (n.entry ∷ [])))));
  are_asked = asked_append j j.looked l.entries (n.entry ∷ []) (looks_asked j j.looked l.entries l.looks) (subst (λ w. IsAsked j (j.looked ++ pages_of l.entries) w) (sym n.event_is) (shown j p q rows x l known), tt);
}

look_in_vain : (limit : ℕ) (why : Refusal) (j : JoinerView) (p q r : CallerView) (rows : List Update) (x : ℕ) → Looks j.looked p q rows → IsKnown j rows x → Refuses limit why q r (Join x) → AsksInVain limit why j p r
unfolding asks_looks
look_in_vain limit why j p q r rows x l known refused = record { between = q; asks = asks_looks j p q rows l; last = Join x; is_asked = shown j p q rows x l known; refused = refused }

-- the joiner whose look is over is the same but for the rows
pub looked_then : (result : Result (Unit {0}) Refusal) (j i : JoinerView) (p q r : CallerView) (x : ℕ) → LooksAll j.looked p q i.looked → i ≡ record j { looked = i.looked } → IsKnown i i.looked x → OnOk result (JoinsPeer q r x) → IfOk result (λ _. Asks j p r)
looked_then (Ok u) j i p q r x l same known joins = look_joins j p q r i.looked x joins.0 l.looks (subst (λ w. IsKnown w i.looked x) same known) joins.1
looked_then (Err why) j i p q r x l same known joins = tt

pub looked_in_vain : (result : Result (Unit {0}) Refusal) (limit : ℕ) (j i : JoinerView) (p q r : CallerView) (x : ℕ) → LooksAll j.looked p q i.looked → i ≡ record j { looked = i.looked } → IsKnown i i.looked x → IfErr result (λ why. Refuses limit why q r (Join x)) → IfErr result (λ why. AsksInVain limit why j p r)
looked_in_vain (Ok u) limit j i p q r x l same known refused = tt
looked_in_vain (Err why) limit j i p q r x l same known refused = look_in_vain limit why j p q r i.looked x l.looks (subst (λ w. IsKnown w i.looked x) same known) refused

told_then : (j i k : JoinerView) (at : Moment) → i ≡ record j { looked = i.looked } → TellsDue (after_look i at i.looked) at i.looked k → TellsDue (after_look j at i.looked) at i.looked k
told_then j i k at same told = subst (λ w. TellsDue (after_look w at i.looked) at i.looked k) same told

-- a look round, with a join and without one
pub round_joined : (result : Result (Unit {0}) Refusal) (j i k m : JoinerView) (at : Moment) (p q r : CallerView) (x : ℕ) → LooksAll j.looked p q i.looked → i ≡ record j { looked = i.looked } → TellsDue (after_look i at i.looked) at i.looked k → k.drawn ≡ Some x → OnOk result (JoinsPeer q r x) → OnOk result (m ≡ joined_drawn at.now k) → OnOk result (LooksRound j at p m r)
round_joined (Ok u) j i k m at p q r x l same told is joins over = record { rows = i.looked; between = q; looks = l; telling = k; told = told_then j i k at same told; joins = subst (JoinsIf q r) (sym is) joins; over = over }
round_joined (Err why) j i k m at p q r x l same told is joins over = tt

pub round_alone : (j i k : JoinerView) (at : Moment) (p q : CallerView) → LooksAll j.looked p q i.looked → i ≡ record j { looked = i.looked } → TellsDue (after_look i at i.looked) at i.looked k → k.drawn ≡ None → LooksRound j at p k q
round_alone j i k at p q l same told is = record { rows = i.looked; between = q; looks = l; telling = k; told = told_then j i k at same told; joins = subst (JoinsIf q q) (sym is) refl; over = sym (ap (λ d. joined_drawn_by d at.now k) is) }

-- Of another joiner that is of the same member, and has the same peers, rows and drawn member.

pub record IsAlike (j k : JoinerView) : Type 0 where
  pub me : k.me ≡ j.me
  pub list : k.peers.list ≡ j.peers.list
  pub looked : k.looked ≡ j.looked
  pub drawn : k.drawn ≡ j.drawn

is_asked_same : (j k : JoinerView) (rows : List Update) (e : Event) → IsAlike j k → IsAsked k rows e → IsAsked j rows e
is_asked_same j k rows (Members after) s is = tt
is_asked_same j k rows (Join x) s (inl (inl is)) = inl (inl (subst (λ peers. IsPeer peers x) s.list is))
is_asked_same j k rows (Join x) s (inl (inr (inl is))) = inl (inr (inl (subst (λ me. IsDrawnFrom me rows x) s.me is)))
is_asked_same j k rows (Join x) s (inl (inr (inr is))) = inl (inr (inr (subst (λ me. IsFailedFrom me rows x) s.me is)))
is_asked_same j k rows (Join x) s (inr is) = inr (sym s.drawn ∙ is)
is_asked_same j k rows _ s is = absurd is

are_asked_same : (j k : JoinerView) (rows : List Update) (es : List Entry) → IsAlike j k → AreAsked k rows es → AreAsked j rows es
are_asked_same j k rows [] s a = tt
are_asked_same j k rows (e ∷ es) s a = (is_asked_same j k rows e.event s a.0, are_asked_same j k (rows ++ e.reply.page.items) es s a.1)

asks_of : (j k : JoinerView) (p q : CallerView) → IsAlike j k → Asks k p q → Asks j p q
asks_of j k p q s a = record { entries = a.entries; gains = a.gains; asked = a.asked; are_asked = subst (λ w. AreAsked j w a.entries) s.looked (are_asked_same j k k.looked a.entries s a.are_asked) }

in_vain_of : (limit : ℕ) (why : Refusal) (j k : JoinerView) (p q : CallerView) → IsAlike j k → AsksInVain limit why k p q → AsksInVain limit why j p q
unfolding asks_of
in_vain_of limit why j k p q s a = record { between = a.between; asks = asks_of j k p a.between s a.asks; last = a.last; is_asked = subst (λ w. IsAsked j (w ++ pages_of a.asks.entries) a.last) s.looked (is_asked_same j k (k.looked ++ pages_of a.asks.entries) a.last s a.is_asked); refused = a.refused }

pub asks_same : (result : Result (Unit {0}) Refusal) (j k : JoinerView) (p q : CallerView) → IsAlike j k → IfOk result (λ _. Asks k p q) → IfOk result (λ _. Asks j p q)
asks_same (Ok u) j k p q s a = asks_of j k p q s a
asks_same (Err why) j k p q s a = tt

pub in_vain_same : (result : Result (Unit {0}) Refusal) (limit : ℕ) (j k : JoinerView) (p q : CallerView) → IsAlike j k → IfErr result (λ why. AsksInVain limit why k p q) → IfErr result (λ why. AsksInVain limit why j p q)
in_vain_same (Ok u) limit j k p q s a = tt
in_vain_same (Err why) limit j k p q s a = in_vain_of limit why j k p q s a

-- Pages.

whole-left : (rows more : List Update) → AreWhole (rows ++ more) → AreWhole rows
whole-left rows more all = (from-left 0 rows more all.0, let most = all.1 in omega (arith, simp length-append at most))

-- a row of a page that is in order was added
pub all_added : (old rows new page : List Update) (i : ℕ) (row : Update) (added : Bool) → (AreWhole (old ++ take i page) → rows ≡ old ++ take i page) → (IsTrue added → new ≡ rows ++ row ∷ []) → IsTrue added ↔ AreFrom 0 (rows ++ row ∷ []) × (length rows < MEMBERS_MAX) → take (i + 1) page ≡ take i page ++ row ∷ [] → AreWhole (old ++ take (i + 1) page) → new ≡ old ++ take (i + 1) page
all_added old rows new page i row added so_far more fits next whole =
    let grown : old ++ take (i + 1) page ≡ (old ++ take i page) ++ row ∷ [] = ap (λ w. old ++ w) next ∙ sym (append_assoc old (take i page) (row ∷ [])) in
    let all : AreWhole ((old ++ take i page) ++ row ∷ []) = subst AreWhole grown whole in
    let same : rows ≡ old ++ take i page = so_far (whole-left (old ++ take i page) (row ∷ []) all) in
    let now : AreWhole (rows ++ row ∷ []) = subst (λ w. AreWhole (w ++ row ∷ [])) (sym same) all in
    let most : length (rows ++ row ∷ []) ≤ MEMBERS_MAX = now.1 in
    let room : length rows < MEMBERS_MAX = omega (arith, simp length-append at most) in
    more (fits.1 (now.0, room)) ∙ (ap (λ w. w ++ row ∷ []) same ∙ sym grown)

-- Looks.

-- so many full pages so far, after the rows that were seen
pub record LooksSoFar (seen : List Update) (p q : CallerView) (rows : List Update) (pages : ℕ) : Type 0 where
  pub looks : Looks seen p q rows
  pub full : AreFull looks.entries
  pub count : length looks.entries ≡ pages

pub looks_none : (seen : List Update) (p : CallerView) → LooksSoFar seen p p seen 0
looks_none seen p = record {
  looks = record { entries = []; gains = no_gain p; asked = sym (append-nil p.asked); looks = tt; read = λ held x is. inl is; all = λ _. (sym (append-nil seen), tt) };
  full = tt;
  count = refl;
}

pub looks_refused : (limit : ℕ) (why : Refusal) (seen : List Update) (p q r : CallerView) (rows : List Update) (pages : ℕ) → LooksSoFar seen p q rows pages → pages < PAGES_MAX → Refuses limit why q r (Members (place_after rows)) → LooksInVain limit why seen p r rows
looks_refused limit why seen p q r rows pages l less refused = record { between = q; looks = l.looks; full = l.full; fewer = omega (arith, l.count, less); refused = refused }

looks_append : (es : List Entry) (e : Entry) (after : ℕ) → AreLooks es → e.event ≡ Members after → AreLooks (es ++ e ∷ [])
looks_append [] e after l is = ((after, is), tt)
looks_append (f ∷ es) e after l is = (l.0, looks_append es e after l.1 is)

turn_append : (rows : List Update) (es : List Entry) (e : Entry) → AreConsecutive rows es → e.event ≡ Members (place_after (rows ++ pages_of es)) → AreConsecutive rows (es ++ e ∷ [])
turn_append rows [] e l is = (subst (λ w. e.event ≡ Members (place_after w)) (append-nil rows) is, tt)
turn_append rows (f ∷ es) e l is = (l.0, turn_append (rows ++ f.reply.page.items) es e l.1 (subst (λ w. e.event ≡ Members (place_after w)) (sym (append_assoc rows f.reply.page.items (pages_of es))) is))

full_append : (es : List Entry) (e : Entry) → AreFull es → length e.reply.page.items ≡ UPDATES_MAX → AreFull (es ++ e ∷ [])
full_append [] e l is = (is, tt)
full_append (f ∷ es) e l is = (l.0, full_append es e l.1 is)

pages_append : (es : List Entry) (e : Entry) → pages_of (es ++ e ∷ []) ≡ pages_of es ++ e.reply.page.items
pages_append [] e = append-nil e.reply.page.items
pages_append (f ∷ es) e = ap (λ w. f.reply.page.items ++ w) (pages_append es e) ∙ sym (append_assoc f.reply.page.items (pages_of es) e.reply.page.items)

pages_after : (seen : List Update) (es : List Entry) (e : Entry) → seen ++ pages_of (es ++ e ∷ []) ≡ (seen ++ pages_of es) ++ e.reply.page.items
pages_after seen es e = ap (λ w. seen ++ w) (pages_append es e) ∙ sym (append_assoc seen (pages_of es) e.reply.page.items)

-- the rows of one page more, where all are in order
all_more : (seen : List Update) (es : List Entry) (e : Entry) (rows new : List Update) → (AreWhole (seen ++ pages_of es) → (rows ≡ seen ++ pages_of es) × AreConsecutive seen es) → e.event ≡ Members (place_after rows) → (AreWhole (rows ++ e.reply.page.items) → new ≡ rows ++ e.reply.page.items) → AreWhole (seen ++ pages_of (es ++ e ∷ [])) → (new ≡ seen ++ pages_of (es ++ e ∷ [])) × AreConsecutive seen (es ++ e ∷ [])
all_more seen es e rows new so_far is add whole =
    let all : AreWhole ((seen ++ pages_of es) ++ e.reply.page.items) = subst AreWhole (pages_after seen es e) whole in
    let before = so_far (whole-left (seen ++ pages_of es) e.reply.page.items all) in
    let same : rows ≡ seen ++ pages_of es = before.0 in
    let now : AreWhole (rows ++ e.reply.page.items) = subst (λ w. AreWhole (w ++ e.reply.page.items)) (sym same) all in
    (add now ∙ (ap (λ w. w ++ e.reply.page.items) same ∙ sym (pages_after seen es e)), turn_append seen es e before.1 (is ∙ ap (λ w. Members (place_after w)) same))

-- a row of one page more was seen, or stands in a page
read_more : (seen : List Update) (p q r : CallerView) (rows more : List Update) (full : Bool) (l : Looks seen p q rows) (n : ReadsPage q r rows more full) (held : Bool) (x : ℕ) → IsShownAs held more x → IsShownAs held seen x ⊎ IsShownAs held (pages_of (l.entries ++ n.call.entry ∷ [])) x
read_more seen p q r rows more full l n held x is =
    let page = n.call.entry.reply.page.items in
    let grown = sym (pages_append l.entries n.call.entry) in
    elim (n.shown held x is) [
      | inl a ↦ elim (l.read held x a) [ inl s ↦ inl s | inr t ↦ inr (subst (λ w. IsShownAs held w x) grown (shown-left held (pages_of l.entries) page x t)) ]
      | inr b ↦ inr (subst (λ w. IsShownAs held w x) grown (shown-right held (pages_of l.entries) page x (subst (λ w. IsShownAs held w.page.items x) (sym n.call.reply_is) b)))
    ]

abbrev looks_more : (seen : List Update) (p q r : CallerView) (rows more : List Update) (full : Bool) → Looks seen p q rows → ReadsPage q r rows more full → Looks seen p r more
looks_more seen p q r rows more full l n = let after = place_after rows in record {
  entries = l.entries ++ n.call.entry ∷ [];
  gains = more_gains p q r l.entries (n.call.entry ∷ []) l.gains n.call.gains;
  asked = n.call.asked ∙ (ap (λ w. w ++ Members after ∷ []) l.asked ∙ (append_assoc p.asked (events_of l.entries) (Members after ∷ []) ∙ ap (λ w. p.asked ++ w) (ap (λ e. events_of l.entries ++ e ∷ []) (sym n.call.event_is) ∙ sym (events_of-append l.entries (n.call.entry ∷ [])))));
  looks = looks_append l.entries n.call.entry after l.looks n.call.event_is;
  read = read_more seen p q r rows more full l n;
  all = all_more seen l.entries n.call.entry rows more l.all n.call.event_is (subst (λ w. AreWhole (rows ++ w.page.items) → more ≡ rows ++ w.page.items) (sym n.call.reply_is) n.all);
}

counted : (es : List Entry) (e : Entry) (pages : ℕ) → length es ≡ pages → length (es ++ e ∷ []) ≡ pages + 1
counted es e pages count = simp length-append (omega (arith, count))

full_size : (n : ℕ) → true ≡ (n == UPDATES_MAX) → n ≡ UPDATES_MAX
full_size n is = search (rules, tests)

-- one more full page
pub looks_on : (seen : List Update) (p q r : CallerView) (rows more : List Update) (pages : ℕ) → LooksSoFar seen p q rows pages → ReadsPage q r rows more true → LooksSoFar seen p r more (pages + 1)
looks_on seen p q r rows more pages l n = record {
  looks = looks_more seen p q r rows more true l.looks n;
  full = full_append l.looks.entries n.call.entry l.full (ap (λ (w : Reply). length w.page.items) n.call.reply_is ∙ full_size (length n.reply.page.items) n.full_is);
  count = counted l.looks.entries n.call.entry pages l.count;
}

ends_short : (most : ℕ) (es : List Entry) (e : Entry) → AreFull es → length es < most → length e.reply.page.items < UPDATES_MAX → AreAllPages most (es ++ e ∷ [])
ends_short most [] e full less short = (less, inl (short, refl))
ends_short most (f ∷ es) e full less short = (omega (arith, less), inr (full.0, ends_short (most - 1) es e full.1 (omega (arith, less)) short))

ends_whole : (most : ℕ) (es : List Entry) → AreFull es → length es ≡ most → AreAllPages most es
ends_whole most [] full is = sym is
ends_whole most (e ∷ es) full is = (omega (arith, is), inr (full.0, ends_whole (most - 1) es full.1 (omega (arith, is))))

short_size : (n : ℕ) → n ≤ UPDATES_MAX → false ≡ (n == UPDATES_MAX) → n < UPDATES_MAX
short_size n most is = grind (arith, nat_tests)

-- the last page
pub looks_short : (seen : List Update) (p q r : CallerView) (rows more : List Update) (pages : ℕ) → LooksSoFar seen p q rows pages → pages < PAGES_MAX → ReadsPage q r rows more false → LooksAll seen p r more
looks_short seen p q r rows more pages l less n = record {
  looks = looks_more seen p q r rows more false l.looks n;
  pages = ends_short PAGES_MAX l.looks.entries n.call.entry l.full (omega (arith, l.count, less)) (subst (λ (w : Reply). length w.page.items < UPDATES_MAX) (sym n.call.reply_is) (short_size (length n.reply.page.items) n.most n.full_is));
}

-- as many as there can be
pub looks_whole : (seen : List Update) (p q : CallerView) (rows : List Update) → LooksSoFar seen p q rows PAGES_MAX → LooksAll seen p q rows
looks_whole seen p q rows l = record { looks = l.looks; pages = ends_whole PAGES_MAX l.looks.entries l.full l.count }
