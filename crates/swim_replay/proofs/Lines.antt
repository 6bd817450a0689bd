-- The lines at the front of a recording.
use Rattle.std.proofs.Common.{◌≡◌, ℕ, ◌+◌, ◌<◌, List, [], ◌∷◌, ◌++◌, length, map, refl, sym, ap, ◌∙◌, arith, append_assoc, length-append, Option}
use Rattle.std.specs.Prelude.{All}
use Rattle.std.proofs.lemmas.List.Elements.{All-append, All-head, All-nil, All-tail}
use Rattle.swim_words.specs.Words.{Lacks, split_by}
use Rattle.swim_words.proofs.Splits.{no_split, same_split}
use Rattle.swim_node.specs.declared.entry.Entry.{Entry}
use Rattle.swim_node.specs.History.{Base}
use Rattle.swim_record.specs.declared.line.Line.{Line}
use Rattle.swim_record.specs.declared.time.EraTime.{EraTime}
use Rattle.swim_record.specs.Blocks.{AreFit, HasNoLine, IsFit}
use Rattle.swim_record.specs.Lines.{line_text}
use Rattle.swim_record.specs.Recording.{begin_line, begun_text, call_text, calls_text, event_words, recording_head, joining_lines, known_text, lines_text, listed_line, member_line, met_lines, probe_lines, recording_text, relay_line, row_line, say_line, times_line}
use Rattle.swim_record.proofs.Blocks.{event_alone, line_ends}
use Rattle.swim_record.proofs.Writing.{lines-append}
use Rattle.swim_replay.specs.Recorded.{IsRecordedCall, base_lines}
use Rattle.swim_replay.proofs.Calls.{met-fit}

-- The lines of a beginning are its text

sections : (s r q p e j l g : List Line) → (lines_text s ++ lines_text r ++ lines_text q) ++ (lines_text p ++ lines_text e ++ lines_text j ++ lines_text l ++ lines_text g) ≡ lines_text (s ++ (r ++ q ++ p ++ e ++ j ++ l ++ g))
sections s r q p e j l g = simp (lines-append, append_assoc)

pub base-text : (b : Base) → known_text b ++ begun_text b ≡ lines_text (base_lines b)
base-text b = sections (member_line b.state.settings ∷ times_line b.state.settings b.limit ∷ []) (map row_line b.state.rows) (map say_line b.state.queue) (probe_lines b.state.probe) (map relay_line b.state.relays) (joining_lines b.state.joining) (map listed_line b.state.listed) (begin_line b ∷ [])

-- what a recording begins with, and what follows that
pub body : (time : Option EraTime) (b : Base) (entries : List Entry) → recording_text time b entries ≡ recording_head time ++ (lines_text (base_lines b) ++ calls_text b.granted entries)
body time b entries =
    ap (λ (t : List ℕ). t ++ calls_text b.granted entries) (append_assoc (recording_head time) (known_text b) (begun_text b))
    ∙ append_assoc (recording_head time) (known_text b ++ begun_text b) (calls_text b.granted entries)
    ∙ ap (λ (t : List ℕ). recording_head time ++ (t ++ calls_text b.granted entries)) (base-text b)

-- Nothing has no line

pub none-alone : HasNoLine []
none-alone l rest starts = omega (arith, ap length starts.0, length-append (line_text l) (10 ∷ rest))

-- A call ends with the line of an event

pub call-parts : (granted : ℕ) (e : Entry) (after : List ℕ) → call_text granted e ++ after ≡ lines_text (met_lines granted e) ++ (event_words e.event ++ 10 ∷ after)
call-parts granted e after = simp append_assoc

-- what comes after lines that were read as far as they go begins with lines
pub record Goes (granted : ℕ) (entries : List Entry) : Type 0 where
  pub after : List Line
  pub rest : List ℕ
  pub fit : AreFit after
  pub none : HasNoLine rest
  pub text : calls_text granted entries ≡ lines_text after ++ rest

pub goes : (granted : ℕ) (entries : List Entry) → All IsRecordedCall entries → Goes granted entries
goes granted [] calls = record { after = []; rest = []; fit = All-nil IsFit; none = none-alone; text = refl }
goes granted (e ∷ entries) calls =
    let is = All-head IsRecordedCall e entries calls in record {
      after = met_lines granted e;
      rest = event_words e.event ++ 10 ∷ calls_text e.granted entries;
      fit = met-fit granted e is;
      none = event_alone e.event (calls_text e.granted entries) is.event;
      text = call-parts granted e (calls_text e.granted entries);
    }

-- so many lines are left of those that stand before the rest of a text
pub record HasLines (text : List ℕ) (passed count : ℕ) (rest : List ℕ) : Type 0 where
  pub left : List Line
  pub fit : AreFit left
  pub number : passed + length left ≡ count
  pub is : text ≡ lines_text left ++ rest

line-next : (text word after : List ℕ) (passed count : ℕ) (rest : List ℕ) (left : List Line) → AreFit left → passed + length left ≡ count → text ≡ lines_text left ++ rest → passed < count → Lacks 10 word → text ≡ split_by 10 word after → HasLines after (passed + 1) count rest
line-next text word after passed count rest [] fit number is some lacks parts = absurd (omega arith)
line-next text word after passed count rest (l ∷ left) fit number is some lacks parts =
    let cut = same_split 10 text word after (line_text l) (lines_text left ++ rest) lacks parts (line_ends l (All-head IsFit l left fit)) (is ∙ append_assoc (line_text l) (10 ∷ lines_text left) rest) in record {
      left = left;
      fit = All-tail IsFit l left fit;
      number = omega arith;
      is = cut.1;
    }

pub lines_next : (text word after : List ℕ) (passed count : ℕ) (rest : List ℕ) → HasLines text passed count rest → passed < count → Lacks 10 word → text ≡ split_by 10 word after → HasLines after (passed + 1) count rest
lines_next text word after passed count rest w some lacks parts = line-next text word after passed count rest w.left w.fit w.number w.is some lacks parts

line-none : (text : List ℕ) (passed count : ℕ) (rest : List ℕ) (left : List Line) → passed + length left ≡ count → text ≡ lines_text left ++ rest → passed < count → Lacks 10 text → ⊥
line-none text passed count rest [] number is some lacks = omega arith
line-none text passed count rest (l ∷ left) number is some lacks = no_split 10 (line_text l) (lines_text left ++ rest) text lacks (is ∙ append_assoc (line_text l) (10 ∷ lines_text left) rest)

pub lines_none : (text : List ℕ) (passed count : ℕ) (rest : List ℕ) → HasLines text passed count rest → passed < count → Lacks 10 text → ⊥
lines_none text passed count rest w some lacks = line-none text passed count rest w.left w.number w.is some lacks

-- A call is read in one way

pub read-parts : (text : List ℕ) (granted : ℕ) (e : Entry) (after : List ℕ) (lines : List Line) (rest : List ℕ) → IsRecordedCall e → text ≡ call_text granted e ++ after → ((ls : List Line) (r : List ℕ) → text ≡ lines_text ls ++ r → AreFit ls → HasNoLine r → (lines ≡ ls) × (rest ≡ r)) → (lines ≡ met_lines granted e) × (rest ≡ event_words e.event ++ 10 ∷ after)
read-parts text granted e after lines rest is says back =
    back (met_lines granted e) (event_words e.event ++ 10 ∷ after) (says ∙ call-parts granted e after) (met-fit granted e is) (event_alone e.event after is.event)

-- The lines at the front of a recording begin with those of its beginning

pub base-first : (b : Base) (entries : List Entry) (text : List ℕ) (lines : List Line) (rest : List ℕ) → AreFit (base_lines b) → All IsRecordedCall entries → text ≡ lines_text (base_lines b) ++ calls_text b.granted entries → ((ls : List Line) (r : List ℕ) → text ≡ lines_text ls ++ r → AreFit ls → HasNoLine r → (lines ≡ ls) × (rest ≡ r)) → (after : List Line) × (lines ≡ base_lines b ++ after)
base-first b entries text lines rest fit calls says back =
    let w = goes b.granted entries calls in
    let whole : text ≡ lines_text (base_lines b ++ w.after) ++ w.rest =
    says
    ∙ ap (λ (t : List ℕ). lines_text (base_lines b) ++ t) w.text
    ∙ sym (append_assoc (lines_text (base_lines b)) (lines_text w.after) w.rest)
    ∙ ap (λ (t : List ℕ). t ++ w.rest) (sym (lines-append (base_lines b) w.after)) in
    (w.after, (back (base_lines b ++ w.after) w.rest whole (All-append IsFit (base_lines b) w.after fit w.fit) w.none).0)
