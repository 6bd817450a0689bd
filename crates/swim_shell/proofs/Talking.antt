-- Turns of a conversation, put together.
use Rattle.std.proofs.Common.{◌≡◌, ℕ, ◌+◌, ◌≤◌, Bool, true, List, inl, inr, [], ◌∷◌, ◌++◌, length, refl, ap, sym, subst, ◌∙◌, arith, length-append}
use Rattle.std.specs.Prelude.{Option, Some, None, IfNone, IfSome}
use Rattle.std.proofs.lemmas.List.{append-nil}
use Rattle.swim_shell.specs.declared.caller.Refusal.{Refusal}
use Rattle.swim_shell.specs.declared.request.Request.{Request}
use Rattle.swim_shell.specs.declared.lines.LineText.{LineText}
use Rattle.swim_shell.specs.declared.lines.NoLine.{NoLine}
use Rattle.swim_shell.specs.declared.lines.NoLine.TheVariants as none
use Rattle.swim_shell.specs.declared.conversation.LineEnd.{LineEnd}
use Rattle.swim_shell.specs.declared.conversation.ControlEnd.{ControlEnd}
use Rattle.swim_shell.specs.declared.conversation.ControlEnd.TheVariants as ends
use Rattle.swim_shell.specs.declared.conversation.LineEnd.TheVariants as line_end
use Rattle.swim_shell.specs.Calls.{CallerView}
use Rattle.swim_shell.specs.Work.{Goes}
use Rattle.swim_shell.specs.Lines.{IsLine, Takes, TakesLine}
use Rattle.swim_shell.specs.Requests.{Names}
use Rattle.swim_shell.specs.Answers.{Answers, Gives, end_of}
use Rattle.swim_shell.specs.Views.{ConversationView, is_waiting, waits}
use Rattle.swim_shell.specs.Control.{Heard, Hears, bytes_of, answers_of, DueAfter, Talks, carried, HadToWrite, Converses, IsSettled, ConversedBy, HearsLine, HearsNone, due_before, EndsIf, Sends}
use Rattle.swim_shell.proofs.Reading.{takes_nothing, takes_more}
use Rattle.swim_shell.proofs.Writing.{appends_nothing, gives_nothing, gives_more}
use Rattle.std.proofs.lemmas.List.{append_assoc}

-- ---- lines

hears_more : (limit : ℕ) (p q r : CallerView) (xs ys : List Heard) → Hears limit p q xs → Hears limit q r ys → Hears limit p r (xs ++ ys)
hears_more limit p q r [] ys h k = subst (λ w. Hears limit w r ys) h k
hears_more limit p q r (x ∷ xs) ys h k = (h.0, h.1, hears_more limit h.0 q r xs ys h.2 k)

due_more : (d e f : Option LineEnd) (xs ys : List Heard) → DueAfter d xs e → DueAfter e ys f → DueAfter d (xs ++ ys) f
due_more d e f [] ys h k = subst (λ w. DueAfter w ys f) h k
due_more d e f (x ∷ xs) ys h k = (h.0, due_more (end_of x.refused x.asked) e f xs ys h.1 k)

bytes_of-append : (xs ys : List Heard) → bytes_of (xs ++ ys) ≡ bytes_of xs ++ bytes_of ys
bytes_of-append [] ys = refl
bytes_of-append (x ∷ xs) ys = ap (λ w. (x.text ++ 10 ∷ []) ++ w) (bytes_of-append xs ys) ∙ sym (append_assoc (x.text ++ 10 ∷ []) (bytes_of xs) (bytes_of ys))

answers_of-append : (xs ys : List Heard) → answers_of (xs ++ ys) ≡ answers_of xs ++ answers_of ys
answers_of-append [] ys = refl
answers_of-append (x ∷ xs) ys = ap (λ w. x.answer ++ w) (answers_of-append xs ys) ∙ sym (append_assoc x.answer (answers_of xs) (answers_of ys))

talks_more : (limit : ℕ) (a b c : ConversationView) (p q r : CallerView) (d e f : Option LineEnd) (xs ys : List Heard) → Talks limit a p b q d e xs → Talks limit b q c r e f ys → Talks limit a p c r d f (xs ++ ys)
talks_more limit a b c p q r d e f xs ys s t = record {
  lines = hears_more limit p q r xs ys s.lines t.lines;
  took = subst (Takes a.comes c.comes a.kept c.kept) (sym (bytes_of-append xs ys)) (takes_more a.comes b.comes c.comes a.kept b.kept c.kept (bytes_of xs) (bytes_of ys) s.took t.took);
  wrote = subst (Gives a.gone c.gone a.left c.left) (sym (answers_of-append xs ys)) (gives_more a.gone b.gone c.gone a.left b.left c.left (answers_of xs) (answers_of ys) s.wrote t.wrote);
  ends = due_more d e f xs ys s.ends t.ends;
}

waits_on : (due : Option LineEnd) (out : Bool) → is_waiting (carried due) out ≡ true → is_waiting due out ≡ true
waits_on None out e = e
waits_on (Some line_end.Asked) out e = refl
waits_on (Some line_end.EraAsked) out e = refl
waits_on (Some line_end.Reloading) out e = refl
waits_on (Some (line_end.Refused why)) out e = refl

pub converses_start : (limit : ℕ) (a : ConversationView) (p : CallerView) → Converses limit a p (record a { due = carried a.due }) p 0
converses_start limit a p = record {
  heard = [];
  each = omega arith;
  talks = record { lines = refl; took = takes_nothing a.comes a.kept; wrote = gives_nothing a.gone a.left; ends = refl };
  waits = λ e. inl (waits_on a.due a.out e);
}

was_waiting : (a b : ConversationView) → b.due ≡ a.due → b.out ≡ a.out → waits b ≡ true → waits a ≡ true
was_waiting a b due out e = cc

had_none : (s : ConversationView) (ys : List Heard) → HadToWrite s [] → HadToWrite s ys
had_none s ys (inl e) = inl e
had_none s ys (inr some) = absurd (some refl)

had_more : (s a : ConversationView) (xs ys : List Heard) → (waits a ≡ true → HadToWrite s xs) → HadToWrite a ys → HadToWrite s (xs ++ ys)
had_more s a [] ys h (inl e) = had_none s ys (h e)
had_more s a [] ys h (inr some) = inr some
had_more s a (x ∷ xs) ys h k = inr (λ e. absurd cc)

-- ---- parts of a turn

pub hears_line : (limit : ℕ) (a b : ConversationView) (p q : CallerView) (line : LineText) (asked : Request) (refused : Option Refusal) (answer : List ℕ) → a.left ≡ [] → TakesLine a.comes b.comes a.kept b.kept line
    → ((text : List ℕ) → IsLine text line → Names text asked) → Answers limit asked p q refused answer → b.gone ≡ a.gone → b.left ≡ answer → b.due ≡ end_of refused asked → HearsLine limit a p b q
hears_line limit a b p q line asked refused answer empty t names answers gone left due = record {
  line = record { text = t.text; asked = asked; refused = refused; answer = answer };
  is = record { lacks = t.lacks; names = names t.text t.is; answers = answers };
  took = t.took;
  gone = gone;
  empty = empty;
  left = left;
  due = due;
}

-- ---- one turn

-- what one turn does, and how it ends the conversation
pub record OneTurn (limit : ℕ) (a : ConversationView) (p : CallerView) (b : ConversationView) (q : CallerView) (end : Option ControlEnd) : Type 0 where
  pub heard : List Heard
  pub each : length heard ≤ 1
  pub talks : Talks limit a p b q a.due (due_before end b.due) heard
  pub ended : EndsIf end b
  pub waits : waits b ≡ true → HadToWrite a heard
  pub fault : end ≡ Some ends.WriteFault → HadToWrite a heard

more_lines : (xs ys : List Heard) (n : ℕ) → length xs ≤ n → length ys ≤ 1 → length (xs ++ ys) ≤ n + 1
more_lines xs ys n h k = omega (arith, length-append xs ys)

turn_on : (limit : ℕ) (s a b : ConversationView) (r p q : CallerView) (n : ℕ) → Converses limit s r a p n → OneTurn limit a p b q None → Converses limit s r b q (n + 1)
turn_on limit s a b r p q n h o = record {
  heard = h.heard ++ o.heard;
  each = more_lines h.heard o.heard n h.each o.each;
  talks = talks_more limit s a b r p q (carried s.due) a.due b.due h.heard o.heard h.talks o.talks;
  waits = λ e. had_more s a h.heard o.heard h.waits (o.waits e);
}

turn_last : (limit : ℕ) (s a b : ConversationView) (r p q : CallerView) (n : ℕ) (end : ControlEnd) → Converses limit s r a p n → OneTurn limit a p b q (Some end) → ConversedBy end limit s r b q (n + 1)
turn_last limit s a b r p q n end h o = record {
  heard = h.heard ++ o.heard;
  each = more_lines h.heard o.heard n h.each o.each;
  talks = talks_more limit s a b r p q (carried s.due) a.due (due_before (Some end) b.due) h.heard o.heard h.talks o.talks;
  ended = o.ended;
  fault = λ e. had_more s a h.heard o.heard h.waits (o.fault (ap Some e));
}

sends : (limit : ℕ) (a b : ConversationView) (p : CallerView) (end : Option ControlEnd) → Sends a b end → Talks limit a p b p a.due (due_before end b.due) []
sends limit a b p end s = record {
  lines = refl;
  took = subst (λ w. Takes a.comes w a.kept b.kept []) (sym s.comes) (subst (λ w. Takes a.comes a.comes a.kept w []) (sym s.kept) (takes_nothing a.comes a.kept));
  wrote = s.wrote;
  ends = sym s.due;
}

-- some of what was left was written
pub turn_sends : (limit : ℕ) (a b : ConversationView) (p : CallerView) (end : Option ControlEnd) → waits a ≡ true → Sends a b end → OneTurn limit a p b p end
turn_sends limit a b p end had s = record { heard = []; each = omega arith; talks = sends limit a b p end s; ended = s.ended; waits = λ _. inl had; fault = λ _. inl had }

hears : (limit : ℕ) (a b : ConversationView) (p q : CallerView) → a.due ≡ None → (h : HearsLine limit a p b q) → Talks limit a p b q a.due b.due (h.line ∷ [])
hears limit a b p q free h = record {
  lines = (q, h.is, refl);
  took = subst (Takes a.comes b.comes a.kept b.kept) (sym (append-nil (h.line.text ++ 10 ∷ []))) h.took;
  wrote = subst (λ w. Gives a.gone w a.left b.left (h.line.answer ++ [])) (sym h.gone) (record { went = []; wrote = appends_nothing a.gone; whole = ap (λ w. w ++ (h.line.answer ++ [])) h.empty ∙ (append-nil h.line.answer ∙ sym h.left) });
  ends = (free, h.due);
}

-- a line was heard, and some of its answer was written
pub turn_hears : (limit : ℕ) (a b c : ConversationView) (p q : CallerView) (end : Option ControlEnd) → a.due ≡ None → HearsLine limit a p b q → Sends b c end → OneTurn limit a p c q end
turn_hears limit a b c p q end free h s = record {
  heard = h.line ∷ [];
  each = omega arith;
  talks = talks_more limit a b c p q q a.due b.due (due_before end c.due) (h.line ∷ []) [] (hears limit a b p q free h) (sends limit b c q end s);
  ended = s.ended;
  waits = λ _. inr (λ e. absurd cc);
  fault = λ _. inr (λ e. absurd cc);
}

quiet : (limit : ℕ) (a b : ConversationView) (p q : CallerView) (why : NoLine) → q ≡ p → HearsNone a b why → Talks limit a p b q a.due b.due []
quiet limit a b p q why same h = record {
  lines = same;
  took = h.took.took;
  wrote = subst (λ w. Gives a.gone w a.left b.left []) (sym h.gone) (subst (λ w. Gives a.gone a.gone a.left w []) (sym h.left) (gives_nothing a.gone a.left));
  ends = h.due;
}

-- no line was there yet
pub turn_waits : (limit : ℕ) (a b : ConversationView) (p q : CallerView) → q ≡ p → HearsNone a b none.NotYet → OneTurn limit a p b q None
turn_waits limit a b p q same h = record { heard = []; each = omega arith; talks = quiet limit a b p q none.NotYet same h; ended = tt; waits = λ e. inl (was_waiting a b h.due h.out e); fault = λ e. absurd cc }

settled : (a b : ConversationView) (why : NoLine) → a.left ≡ [] → a.due ≡ None → HearsNone a b why → IsSettled b
settled a b why left due h = record { left = h.left ∙ left; due = h.due ∙ due }

-- the input ended
pub turn_closes : (limit : ℕ) (a b : ConversationView) (p q : CallerView) → a.left ≡ [] → a.due ≡ None → q ≡ p → HearsNone a b none.Ended → OneTurn limit a p b q (Some ends.Closed)
turn_closes limit a b p q left due same h = record {
  heard = [];
  each = omega arith;
  talks = subst (λ d. Talks limit a p b q a.due d []) (h.due ∙ due) (quiet limit a b p q none.Ended same h);
  ended = (settled a b none.Ended left due h, h.took.lacks (λ e. absurd cc), h.took.ended refl);
  waits = λ e. inl (was_waiting a b h.due h.out e);
  fault = λ e. absurd cc;
}

-- a read failed
pub turn_fails : (limit : ℕ) (a b : ConversationView) (p q : CallerView) → a.left ≡ [] → a.due ≡ None → q ≡ p → HearsNone a b none.Failed → OneTurn limit a p b q (Some ends.ReadFault)
turn_fails limit a b p q left due same h = record {
  heard = [];
  each = omega arith;
  talks = subst (λ d. Talks limit a p b q a.due d []) (h.due ∙ due) (quiet limit a b p q none.Failed same h);
  ended = (settled a b none.Failed left due h, h.took.lacks (λ e. absurd cc));
  waits = λ e. inl (was_waiting a b h.due h.out e);
  fault = λ e. absurd cc;
}

-- ---- what a worker's turn is to show, by how it ended

pub goes_on : (limit : ℕ) (a b : ConversationView) (p q : CallerView) (end : Option ControlEnd) → OneTurn limit a p b q end → IfNone end (Goes (Converses limit) (Converses limit) a p b q)
goes_on limit a b p q None o = λ s r n h. turn_on limit s a b r p q n h o
goes_on limit a b p q (Some end) o = tt

pub ends_so : (limit : ℕ) (a b : ConversationView) (p q : CallerView) (end : Option ControlEnd) → OneTurn limit a p b q end → IfSome end (λ end. Goes (Converses limit) (ConversedBy end limit) a p b q)
ends_so limit a b p q None o = tt
ends_so limit a b p q (Some end) o = λ s r n h. turn_last limit s a b r p q n end h o
