-- What is read of a recording, begins and is entered, unless there is no memory.
use Rattle.std.proofs.Common.{◌≡◌, ℕ, ◌<◌, ◌==◌, true, false, eqb-true, List, [], ◌∷◌, ◌++◌, length, append-nil, append_assoc, length-append, ap, subst, refl, sym, ◌∙◌, arith, Err}
use Rattle.swim_node.specs.declared.entry.Entry.{Entry}
use Rattle.swim_node.specs.declared.entry.Tag.{Tag}
use Rattle.swim_node.specs.declared.fault.ApplyFault.{ApplyFault}
use Rattle.swim_node.specs.declared.fault.ApplyFault.TheVariants.{NoMemory, EraFull, OutOfTurn}
use Rattle.swim_node.specs.History.{Base}
use Rattle.swim_member.specs.declared.event.Event.{Event}
use Rattle.std.proofs.lemmas.List.Elements.{All-tail}
use Rattle.swim_node.specs.History.{AreNext}
use Rattle.swim_node.specs.Lives.{Era}
use Rattle.swim_record.specs.Events.{IsRead}
use Rattle.swim_record.specs.Recording.{calls_text, event_words, lines_text, met_lines}
use Rattle.swim_replay.specs.Machinery.Calls.{IsToCome}
use Rattle.swim_replay.specs.Recorded.{IsRecordedCall}
use Rattle.swim_record.specs.declared.event.EventFault.{EventFault}
use Rattle.swim_record.specs.declared.event.EventFault.TheVariants as event
use Rattle.swim_node.specs.Node.{IsTurn, Refused}

pub only_memory : (b : Base) (entries : List Entry) (tag : Tag) (f : ApplyFault) → IsTurn entries tag → length entries < b.limit → Refused b entries tag f → f ≡ NoMemory
only_memory b entries tag NoMemory turn room refused = refl
only_memory b entries tag EraFull turn room refused = let full = refused.1 in absurd (omega arith)
only_memory b entries tag OutOfTurn turn room refused = absurd (refused turn)

pub event_memory : (f : EventFault) (e : Event) → IsRead e (Err f) → f ≡ event.NoMemory
event_memory event.NoMemory e read = refl
event_memory event.Unknown e read = absurd read

-- after the first of them was entered the others are to come
pub come_next : (old new : Era) (text rest : List ℕ) (granted after : ℕ) (e : Entry) (others : List Entry) → IsToCome old text granted (e ∷ others) → new.base ≡ old.base → new.entries ≡ old.entries ++ e ∷ [] → rest ≡ calls_text e.granted others → after ≡ e.granted → IsToCome new rest after others
come_next old new text rest granted after e others w base added follows same = record {
  text = follows ∙ ap (λ (g : ℕ). calls_text g others) (sym same);
  next = subst (λ (x : Base). AreNext x new.entries others) (sym base) (subst (λ (xs : List Entry). AreNext old.base xs others) (sym added) w.next.1);
  room = let within = w.room in let more = ap (λ (xs : List Entry). length xs) added ∙ length-append old.entries (e ∷ []) in let limit = ap (λ (x : Base). x.limit) base in omega arith;
  limit = let small = w.limit in let limit = ap (λ (x : Base). x.limit) base in omega arith;
  calls = All-tail IsRecordedCall e others w.calls;
}

-- of these calls some were entered, and the others are to come
pub record IsAhead (old now : Era) (rest : List ℕ) (granted : ℕ) (entries : List Entry) : Type 0 where
  pub others : List Entry
  pub come : IsToCome now rest granted others
  pub whole : now.entries ++ others ≡ old.entries ++ entries

-- one of them is next, where something is left
pub record IsOne (old now : Era) (rest : List ℕ) (granted : ℕ) (entries : List Entry) : Type 0 where
  pub e : Entry
  pub others : List Entry
  pub come : IsToCome now rest granted (e ∷ others)
  pub whole : now.entries ++ e ∷ others ≡ old.entries ++ entries

one-of : (old now : Era) (rest : List ℕ) (granted : ℕ) (entries others : List Entry) → (rest ≡ [] → ⊥) → IsToCome now rest granted others → now.entries ++ others ≡ old.entries ++ entries → IsOne old now rest granted entries
one-of old now rest granted entries [] some come whole = absurd (some come.text)
one-of old now rest granted entries (e ∷ others) some come whole = record { e = e; others = others; come = come; whole = whole }

pub ahead_one : (old now : Era) (rest : List ℕ) (granted : ℕ) (entries : List Entry) → (rest ≡ [] → ⊥) → IsAhead old now rest granted entries → IsOne old now rest granted entries
ahead_one old now rest granted entries some w = one-of old now rest granted entries w.others some w.come w.whole

-- a call has a line at least
call-some : (granted : ℕ) (e : Entry) (others : List Entry) → calls_text granted (e ∷ others) ≡ [] → ⊥
call-some granted e others none =
    omega (arith, ap (λ (t : List ℕ). length t) none, length-append (lines_text (met_lines granted e) ++ event_words e.event ++ 10 ∷ []) (calls_text e.granted others), length-append (lines_text (met_lines granted e) ++ event_words e.event) (10 ∷ []))

all-of : (old now : Era) (rest : List ℕ) (granted : ℕ) (entries others : List Entry) → rest ≡ [] → IsToCome now rest granted others → now.entries ++ others ≡ old.entries ++ entries → now.entries ≡ old.entries ++ entries
all-of old now rest granted entries [] none come whole = sym (append-nil now.entries) ∙ whole
all-of old now rest granted entries (e ∷ others) none come whole = absurd (call-some granted e others (sym come.text ∙ none))

pub ahead_all : (old now : Era) (rest : List ℕ) (granted : ℕ) (entries : List Entry) → rest ≡ [] → IsAhead old now rest granted entries → now.entries ≡ old.entries ++ entries
ahead_all old now rest granted entries none w = all-of old now rest granted entries w.others none w.come w.whole

pub ahead_next : (old now new : Era) (rest : List ℕ) (granted : ℕ) (entries : List Entry) (e : Entry) (others : List Entry) → now.entries ++ e ∷ others ≡ old.entries ++ entries → new.entries ≡ now.entries ++ e ∷ [] → IsToCome new rest granted others → IsAhead old new rest granted entries
ahead_next old now new rest granted entries e others whole added come = record {
  others = others;
  come = come;
  whole = ap (λ (xs : List Entry). xs ++ others) added ∙ append_assoc now.entries (e ∷ []) others ∙ whole;
}

pub some_left : (text : List ℕ) → (length text == 0) ≡ false → text ≡ [] → ⊥
some_left text test none = let both : true ≡ false = sym (ap (λ (t : List ℕ). length t == 0) none) ∙ test in absurd (cc)

pub none_left : (text : List ℕ) → (length text == 0) ≡ true → text ≡ []
none_left [] test = refl
none_left (x ∷ text) test = absurd (omega (arith, eqb-true (length (x ∷ text)) 0 test))
