-- The law of turns, by induction over the entries of a turn: who is left in the list was not probed yet, and who is no longer left was probed once, or was not eligible at some look.
use Rattle.std.proofs.Common.{◌≡◌, ℕ, ◌+◌, ◌==◌, Bool, true, false, ◌||◌, refl, sym, ◌∙◌, ap, subst, ◌≤◌, List, [], ◌∷◌, ◌++◌, length, drop, take, append_assoc, append-nil, arith}
use Rattle.std.specs.List.{filter, list_all}
use Rattle.std.proofs.Math.Bool.{or_assoc}
use Rattle.std.proofs.lemmas.Bool.{and_parts, false≢true, eqb-true}
use Rattle.swim_member.specs.declared.answer.Answer.{Answer}
use Rattle.swim_member.specs.State.{State, Change}
use Rattle.swim_member.specs.Events.{Step, log_of, outs, state_of, actions}
use Rattle.swim_member.specs.Judge.{HasDeal}
use Rattle.swim_member.specs.Looks.{lists_in, looks_in, probed_at, is_among}
use Rattle.swim_member.specs.Turn.{still_listed}
use Rattle.swim_member.specs.Machinery.Steps.{apply_all, step_news}
use Rattle.swim_member.proofs.Logs.{news_of-step, state_of-snoc}
use Rattle.swim_member.proofs.FewRows.{few-from}
use Rattle.swim_member.proofs.TurnLists.{AreOnce, AreOut, once-head, once-tail, once-behind, once-rest}
use Rattle.swim_member.proofs.TurnNews.{Turn, Rests, Goes_on, Begins, turn-eq, event-turn}
use Rattle.swim_node.specs.declared.entry.Entry.{Entry}
use Rattle.swim_node.specs.History.{Base, steps, step_of, state_after, IsNext, AreNext, IsLegal}
use Rattle.swim_node.specs.Probing.{happened_at, lists_at, looks_at, probed_by, probes_of, IsEligibleThrough, MakeNone, IsProbedInTurn, ProbesInTurns, EndsTurn, ListsEligible, IsStart, GoesInTurns}
use Rattle.swim_node.proofs.Lists.{steps-append}

-- An entry

-- how many rows there are after these
abbrev rows_after : Base → List Entry → ℕ
rows_after base history = length (state_after base history).rows

happened-news : (base : Base) (before : List Entry) (e : Entry) → happened_at base before e ≡ step_news (state_after base before) e.event e.granted
happened-news base before e = news_of-step base.state (steps before) e.event e.granted (state_after base before) refl

state-entry : (base : Base) (before : List Entry) (e : Entry) → state_after base (before ++ e ∷ []) ≡ apply_all (step_news (state_after base before) e.event e.granted) (state_after base before)
state-entry base before e =
    ap (λ (s : List Step). state_of base.state s) (steps-append before (e ∷ [])) ∙ state_of-snoc base.state (steps before) (step_of e) (state_after base before) refl

entry-turn : (base : Base) (before : List Entry) (e : Entry) → IsNext base before e → Turn (rows_after base before) (still_listed (state_after base before)) (looks_at base before e) (lists_at base before e) (probed_by e) (still_listed (state_after base (before ++ e ∷ [])))
entry-turn base before e n =
    let s : State = state_after base before in
    let news : List Change = step_news s e.event e.granted in
    let same : happened_at base before e ≡ news = happened-news base before e in
    let sent : outs (happened_at base before e) ≡ e.outs.items = ap (λ (a : Answer). a.outs.items) n.answered in
    turn-eq (rows_after base before) (still_listed s) (still_listed s) (looks_in news) (looks_at base before e) (lists_in news) (lists_at base before e) (probed_at e.event (outs news)) (probed_by e) (still_listed (apply_all news s)) (still_listed (state_after base (before ++ e ∷ [])))
    refl (ap looks_in same) (ap lists_in same)
    (ap (probed_at e.event) (sym sent ∙ ap outs same))
    (ap still_listed (state-entry base before e))
    (event-turn base.state (log_of base.state (steps before)) e.event e.granted (λ deal is. subst HasDeal is n.deal))

few-entry : (base : Base) (before : List Entry) (e : Entry) → rows_after base before ≤ 256 → rows_after base (before ++ e ∷ []) ≤ 256
few-entry base before e few =
    subst (λ (s : State). length s.rows ≤ 256) (sym (state-entry base before e))
    (few-from base.state (log_of base.state (steps before)) (actions (state_after base before) e.event e.granted) few)

-- Lists

abbrev times_in : ℕ → List ℕ → ℕ
times_in x names = length (filter (λ y. y == x) names)

in-append : (x : ℕ) (xs ys : List ℕ) → is_among x (xs ++ ys) ≡ (is_among x xs || is_among x ys)
in-append x [] ys = refl
in-append x (y ∷ xs) ys = ap (λ b. (y == x) || b) (in-append x xs ys) ∙ sym (or_assoc (y == x) (is_among x xs) (is_among x ys))

once : (x y n : ℕ) → (b : Bool) → (y == x) ≡ b → (b ≡ true → n ≡ 0) → (b ≡ false → n ≡ 1) → times_in x (y ∷ []) + n ≡ 1
once x y n true e f g = let z : n ≡ 0 = f refl in rw (e, z) refl
once x y n false e f g = let z : n ≡ 1 = g refl in rw (e, z) refl

-- x is the target, or left behind it
goes-listed : (x y : ℕ) (over m names : List ℕ) (n : ℕ) → AreOnce (y ∷ m) → AreOut over names → is_among x names ≡ true → is_among x (over ++ y ∷ m) ≡ true → (is_among x m ≡ true → n ≡ 1) → (is_among x m ≡ false → n ≡ 0) → times_in x (y ∷ []) + n ≡ 1
goes-listed x y over m names n a out e h f g =
    by_over (is_among x over) refl (sym (in-append x over (y ∷ m)) ∙ h)
  where
    behind : (b : Bool) → (y == x) ≡ b → (b || is_among x m) ≡ true → times_in x (y ∷ []) + n ≡ 1
    behind true t k = once x y n true t (λ q. g (ap (λ z. is_among z m) (sym (eqb-true y x t)) ∙ once-head y m a)) (λ q. absurd (false≢true (sym q)))
    behind false t k = once x y n false t (λ q. absurd (false≢true q)) (λ q. f k)

    by_over : (b : Bool) → is_among x over ≡ b → (b || is_among x (y ∷ m)) ≡ true → times_in x (y ∷ []) + n ≡ 1
    by_over true t k = absurd (false≢true (sym (out x t) ∙ e))
    by_over false t k = behind (y == x) refl k

-- x is neither
goes-unlisted : (x y : ℕ) (over m : List ℕ) (n : ℕ) → is_among x (over ++ y ∷ m) ≡ false → (is_among x m ≡ false → n ≡ 0) → times_in x (y ∷ []) + n ≡ 0
goes-unlisted x y over m n h g = by_over (is_among x over) (sym (in-append x over (y ∷ m)) ∙ h)
  where
    behind : (b : Bool) → (y == x) ≡ b → (b || is_among x m) ≡ false → times_in x (y ∷ []) + n ≡ 0
    behind true t k = absurd (false≢true (sym k))
    behind false t k = let none : n ≡ 0 = g k in rw (t, none) refl

    by_over : (b : Bool) → (b || is_among x (y ∷ m)) ≡ false → times_in x (y ∷ []) + n ≡ 0
    by_over true k = absurd (false≢true (sym k))
    by_over false k = behind (y == x) refl k

-- nobody twice
at-most : (x y : ℕ) (m : List ℕ) (n : ℕ) → AreOnce (y ∷ m) → (is_among x m ≡ false → n ≡ 0) → n ≤ 1 → times_in x (y ∷ []) + n ≤ 1
at-most x y m n a g l = by_head (y == x) refl
  where
    by_head : (b : Bool) → (y == x) ≡ b → times_in x (y ∷ []) + n ≤ 1
    by_head true e =
        let one : times_in x (y ∷ []) ≡ 1 = rw e refl in
        let none : n ≡ 0 = g (ap (λ w. is_among w m) (sym (eqb-true y x e)) ∙ once-head y m a) in
        omega (arith, one, none)
    by_head false e = let none : times_in x (y ∷ []) ≡ 0 = rw e refl in omega (arith, none, l)

-- What is left of a list

-- what holds of x in an entry and those after it
record Turned (base : Base) (before : List Entry) (e : Entry) (rest : List Entry) (next : Entry) (x : ℕ) (l : List ℕ) (looks : List (List ℕ)) (probed : List ℕ) : Type 0 where
  listed : list_all (is_among x) looks ≡ true → IsEligibleThrough base (before ++ e ∷ []) (rest ++ next ∷ []) x → is_among x l ≡ true → times_in x probed + probes_of x rest ≡ 1
  unlisted : is_among x l ≡ false → times_in x probed + probes_of x rest ≡ 0
  once : times_in x probed + probes_of x rest ≤ 1

-- from the state after `before`, what is left of the list and no list until `next`
rest-law : (base : Base) (rest : List Entry) (before : List Entry) (next : Entry) (after : List Entry) (following : List ℕ) → AreOnce (still_listed (state_after base before)) → AreNext base before (rest ++ next ∷ after) → MakeNone base before rest → lists_at base (before ++ rest) next ≡ following ∷ [] → (x : ℕ) → IsProbedInTurn base before rest next (still_listed (state_after base before)) x
rest-law base [] before next after following alone legal none ends x =
    record {
      listed = λ h k. absurd (at (entry-turn base before next legal.0) (ap (λ b. lists_at base b next) (sym (append-nil before)) ∙ ends) h k.0);
      unlisted = λ h. refl;
      once = omega arith;
    }
  where
    at : {r : ℕ} {l : List ℕ} {looks lists : List (List ℕ)} {probed m : List ℕ} → Turn r l looks lists probed m → lists ≡ following ∷ [] → is_among x l ≡ true → list_all (is_among x) looks ≡ true → ⊥
    at (Rests a b c d) e h k = absurd (cc)
    at (Goes_on over y names a b c d f) e h k = absurd (cc)
    at (Begins made names out a all b c d f) e h k =
        let seen : list_all (is_among x) (names ∷ []) ≡ true = ap (list_all (is_among x)) (sym b) ∙ k in
        false≢true (sym (out x h) ∙ (and_parts (is_among x names) true seen).0)
rest-law base (e ∷ rest) before next after following alone legal none ends x =
    let turn : Turned base before e rest next x (still_listed (state_after base before)) (looks_at base before e) (probed_by e) =
    at (still_listed (state_after base before)) (looks_at base before e) (lists_at base before e) (probed_by e) (still_listed (state_after base (before ++ e ∷ []))) (entry-turn base before e legal.0) none.0 alone
    (λ a. rest-law base rest (before ++ e ∷ []) next after following a legal.1 none.1 (ap (λ b. lists_at base b next) (append_assoc before (e ∷ []) rest) ∙ ends) x) in
    record { listed = λ h k. turn.listed k.0 k.1 h; unlisted = λ h. turn.unlisted h; once = turn.once }
  where
    at : {r : ℕ} (l : List ℕ) (looks lists : List (List ℕ)) (probed m : List ℕ) → Turn r l looks lists probed m → lists ≡ [] → AreOnce l
        → (AreOnce m → IsProbedInTurn base (before ++ e ∷ []) rest next m x)
        → Turned base before e rest next x l looks probed
    at l looks lists probed m (Rests b c d i) n a f =
        let p : IsProbedInTurn base (before ++ e ∷ []) rest next m x = f (rw i a) in
        record {
          listed = λ s k h. let z : probes_of x rest ≡ 1 = p.listed (rw i h) k in rw (d, z) refl;
          unlisted = λ h. let z : probes_of x rest ≡ 0 = p.unlisted (rw i h) in rw (d, z) refl;
          once = let none : times_in x probed ≡ 0 = rw d refl in omega (arith, none, p.once);
        }
    at l looks lists probed m (Goes_on over y names i out b c d) n a f =
        let here : AreOnce (over ++ y ∷ m) = rw (sym i) a in
        let behind : AreOnce (y ∷ m) = once-behind over (y ∷ m) here in
        let p : IsProbedInTurn base (before ++ e ∷ []) rest next m x = f (once-tail y m behind) in
        record {
          listed = λ s k h.
              let seen : list_all (is_among x) (names ∷ []) ≡ true = ap (list_all (is_among x)) (sym b) ∙ s in
              rw d (goes-listed x y over m names (probes_of x rest) behind out ((and_parts (is_among x names) true seen).0) (ap (is_among x) (sym i) ∙ h) (λ q. p.listed q k) (λ q. p.unlisted q));
          unlisted = λ h. rw d (goes-unlisted x y over m (probes_of x rest) (ap (is_among x) (sym i) ∙ h) (λ q. p.unlisted q));
          once = rw d (at-most x y m (probes_of x rest) behind (λ q. p.unlisted q) p.once);
        }
    at l looks lists probed m (Begins made names out g all b c d i) n a f = absurd (cc)

-- Entries of a legal history

next-drop : (base : Base) (before xs ys : List Entry) → AreNext base before (xs ++ ys) → AreNext base (before ++ xs) ys
next-drop base before [] ys h = rw (append-nil before) h
next-drop base before (x ∷ xs) ys h = rw (sym (append_assoc before (x ∷ []) xs)) (next-drop base (before ++ x ∷ []) xs ys h.1)

next-take : (base : Base) (before xs ys : List Entry) → AreNext base before (xs ++ ys) → AreNext base before xs
next-take base before [] ys h = tt
next-take base before (x ∷ xs) ys h = (h.0, next-take base (before ++ x ∷ []) xs ys h.1)

first-law : (base : Base) (before : List Entry) (first : Entry) (rest : List Entry) (next : Entry) (after : List Entry) (names following : List ℕ) → AreNext base before (first ∷ (rest ++ next ∷ after)) → lists_at base before first ≡ names ∷ [] → MakeNone base (before ++ first ∷ []) rest → lists_at base ((before ++ first ∷ []) ++ rest) next ≡ following ∷ [] → (x : ℕ) → IsProbedInTurn base before (first ∷ rest) next names x
first-law base before first rest next after names following legal begins none ends x =
    let turn : Turned base before first rest next x names [] (probed_by first) =
    at (still_listed (state_after base before)) (looks_at base before first) (lists_at base before first) (probed_by first) (still_listed (state_after base (before ++ first ∷ []))) (entry-turn base before first legal.0) begins
    (λ a. rest-law base rest (before ++ first ∷ []) next after following a legal.1 none ends x) in
    record { listed = λ h k. turn.listed refl k.1 h; unlisted = λ h. turn.unlisted h; once = turn.once }
  where
    with-list : (made : List ℕ) (probed m : List ℕ) → AreOnce made → probed ≡ take 1 made → m ≡ drop 1 made → IsProbedInTurn base (before ++ first ∷ []) rest next m x → Turned base before first rest next x made [] probed
    with-list [] probed m a d i p =
        record {
          listed = λ s k h. absurd (false≢true h);
          unlisted = λ h. let z : probes_of x rest ≡ 0 = p.unlisted (rw i refl) in rw (d, z) refl;
          once = let none : times_in x probed ≡ 0 = rw d refl in omega (arith, none, p.once);
        }
    with-list (y ∷ made) probed m a d i p =
        record {
          listed = λ s k h. rw d (goes-listed x y [] made (y ∷ made) (probes_of x rest) a (λ z q. absurd (false≢true q)) h h (λ q. p.listed (rw i q) k) (λ q. p.unlisted (rw i q)));
          unlisted = λ h. rw d (goes-unlisted x y [] made (probes_of x rest) h (λ q. p.unlisted (rw i q)));
          once = rw d (at-most x y made (probes_of x rest) a (λ q. p.unlisted (rw i q)) p.once);
        }

    at : {r : ℕ} (l : List ℕ) (looks lists : List (List ℕ)) (probed m : List ℕ) → Turn r l looks lists probed m → lists ≡ names ∷ []
        → (AreOnce m → IsProbedInTurn base (before ++ first ∷ []) rest next m x)
        → Turned base before first rest next x names [] probed
    at l looks lists probed m (Rests b c d i) n f = absurd (cc)
    at l looks lists probed m (Goes_on over y seen i out b c d) n f = absurd (cc)
    at l looks lists probed m (Begins made seen out g all b c d i) n f =
        let same : made ≡ names = cc in
        rw (sym same) (with-list made probed m g d i (f (rw i (once-rest made g))))

-- The law

parted : (before : List Entry) (first : Entry) (rest : List Entry) (next : Entry) (after : List Entry) → (before ++ first ∷ []) ++ rest ++ next ∷ after ≡ before ++ (first ∷ (rest ++ next ∷ after))
parted before first rest next after = append_assoc (before ++ first ∷ []) rest (next ∷ after) ∙ append_assoc before (first ∷ []) (rest ++ next ∷ after)

pub turns-probe : (base : Base) (history : List Entry) → IsLegal base history → ProbesInTurns base history
turns-probe base history legal before first rest next after names is turn x =
    let all : AreNext base [] (before ++ (first ∷ (rest ++ next ∷ after))) = rw (sym (is ∙ parted before first rest next after)) legal.each in
    first-law base before first rest next after names turn.following (next-drop base [] before (first ∷ (rest ++ next ∷ after)) all) turn.begins turn.goes_on turn.ends x

-- the end of a turn that an earlier era began
turn-ends : (base : Base) (history : List Entry) → IsLegal base history → IsStart (state_after base []) → EndsTurn base history
turn-ends base history legal start rest next after following is none ends x =
    rest-law base rest [] next after following start.once (rw (sym is) legal.each) none ends x

-- An era

left-once : {r : ℕ} {l : List ℕ} {looks lists : List (List ℕ)} {probed m : List ℕ} → Turn r l looks lists probed m → AreOnce l → AreOnce m
left-once (Rests a b c d) o = rw d o
left-once {r} {l} {looks} {lists} {probed} {m} (Goes_on over y names i out b c d) o = once-tail y m (once-behind over (y ∷ m) (subst AreOnce i o))
left-once (Begins made names out g all b c d i) o = rw i (once-rest made g)

-- the state after any entries is one with which an era may begin
start-from : (base : Base) (before history : List Entry) → AreNext base before history → IsStart (state_after base before) → IsStart (state_after base (before ++ history))
start-from base before [] legal start = rw (append-nil before) start
start-from base before (e ∷ history) legal start =
    let next : IsStart (state_after base (before ++ e ∷ [])) = record {
      once = left-once (entry-turn base before e legal.0) start.once;
      few = few-entry base before e start.few;
    } in
    subst (λ (entries : List Entry). IsStart (state_after base entries)) (append_assoc before (e ∷ []) history) (start-from base (before ++ e ∷ []) history legal.1 next)

pub start-after : (base : Base) (history : List Entry) → IsLegal base history → IsStart (state_after base []) → IsStart (state_after base history)
start-after base history legal start = start-from base [] history legal.each start

lists-eligible : (base : Base) (history : List Entry) → IsLegal base history → IsStart (state_after base []) → ListsEligible base history
lists-eligible base history legal start before e after names eligible is made looked x =
    let all : AreNext base [] (before ++ e ∷ after) = rw (sym is) legal.each in
    let stands : IsStart (state_after base before) = start-from base [] before (next-take base [] before (e ∷ after) all) start in
    at (entry-turn base before e (next-drop base [] before (e ∷ after) all).0) made looked stands.few
  where
    at : {r : ℕ} {l : List ℕ} {looks lists : List (List ℕ)} {probed m : List ℕ} → Turn r l looks lists probed m → lists ≡ names ∷ [] → looks ≡ eligible ∷ [] → r ≤ 256 → is_among x names ≡ is_among x eligible
    at (Rests a b c d) f g few = absurd (cc)
    at (Goes_on over y seen a b c d h) f g few = absurd (cc)
    at (Begins listed seen out a all b c d h) f g few =
        let same : listed ≡ names = cc in
        let alike : seen ≡ eligible = cc in
        rw (sym same, sym alike) (all few x)

-- an era that began with such a state
pub goes-in_turns : (base : Base) (history : List Entry) → IsLegal base history → IsStart (state_after base []) → GoesInTurns base history
goes-in_turns base history legal start = record {
  turns = turns-probe base history legal;
  ends = turn-ends base history legal start;
  lists = lists-eligible base history legal start;
}
