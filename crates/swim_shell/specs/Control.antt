-- What a conversation hears, and what comes of it.
use Rattle.std.specs.Prelude.{◌≡◌, ◌≢◌, ◌⊎◌, ℕ, ◌≤◌, Bool, true, false, Option, Some, None}
use Rattle.std.specs.Prelude.{List, [], ◌∷◌, ◌++◌, length}
use Rattle.std.specs.Io.KnownBytes.{IsAtEnd}
use Rattle.swim_words.specs.Words.{Lacks}
use Rattle.swim_shell.specs.declared.caller.Refusal.{Refusal}
use Rattle.swim_shell.specs.declared.request.Request.{Request}
use Rattle.swim_shell.specs.declared.conversation.LineEnd.{LineEnd}
use Rattle.swim_shell.specs.declared.conversation.LineEnd.TheVariants as line_end
use Rattle.swim_shell.specs.declared.conversation.ControlEnd.{ControlEnd}
use Rattle.swim_shell.specs.declared.conversation.ControlEnd.TheVariants as ends
use Rattle.swim_shell.specs.declared.lines.NoLine.{NoLine}
use Rattle.swim_shell.specs.declared.lines.NoLine.TheVariants.{NotYet}
use Rattle.swim_shell.specs.Calls.{CallerView}
use Rattle.swim_shell.specs.Lines.{Takes, TakesNoLine}
use Rattle.swim_shell.specs.Requests.{Names}
use Rattle.swim_shell.specs.Answers.{Answers, Gives, end_of}
use Rattle.swim_shell.specs.Views.{ConversationView, waits}

-- a line that was heard, what it asks for, why its call was refused, if it was, and its answer
pub record Heard : Type 0 where
  pub text : List ℕ
  pub asked : Request
  pub refused : Option Refusal
  pub answer : List ℕ

-- a line was heard: it names what it asks for, and what that makes of the caller, why it was
-- refused and the answer fit
pub record IsHeard (limit : ℕ) (p q : CallerView) (h : Heard) : Type 0 where
  pub lacks : Lacks 10 h.text
  pub names : Names h.text h.asked
  pub answers : Answers limit h.asked p q h.refused h.answer

-- these lines were heard, one after another, and nothing else was made of the caller
abbrev pub Hears : ℕ → CallerView → CallerView → List Heard → Type 0
Hears limit p q [] = q ≡ p
Hears limit p q (h ∷ hs) = (then : CallerView) × IsHeard limit p then h × Hears limit then q hs

-- the bytes of the lines, each with its end
abbrev pub bytes_of : List Heard → List ℕ
bytes_of [] = []
bytes_of (h ∷ hs) = (h.text ++ 10 ∷ []) ++ bytes_of hs

-- the answers to the lines, in order
abbrev pub answers_of : List Heard → List ℕ
answers_of [] = []
answers_of (h ∷ hs) = h.answer ++ answers_of hs

-- no line is heard while an end is due, and the end that is due is the one of the last line
abbrev pub DueAfter : Option LineEnd → List Heard → Option LineEnd → Type 0
DueAfter before [] due = due ≡ before
DueAfter before (h ∷ hs) due = (before ≡ None) × DueAfter (end_of h.refused h.asked) hs due

-- these lines were heard: they are what was read, with what was kept before, but for what is kept
-- now; and their answers, after what was left to write, are written, but for what is left now
pub record Talks (limit : ℕ) (a : ConversationView) (p : CallerView) (b : ConversationView)
    (q : CallerView) (before due : Option LineEnd) (heard : List Heard)
    : Type 0 where
  pub lines : Hears limit p q heard
  pub took : Takes a.comes b.comes a.kept b.kept (bytes_of heard)
  pub wrote : Gives a.gone b.gone a.left b.left (answers_of heard)
  pub ends : DueAfter before heard due

-- an end that stays due with another caller: a refusal was the former one's, and so was the era
-- that was to end; but nothing was read again yet
abbrev pub carried : Option LineEnd → Option LineEnd
carried (Some (line_end.Refused why)) = None
carried (Some line_end.EraAsked) = None
carried due = due

-- an answer was on its way, or a line was heard
abbrev pub HadToWrite : ConversationView → List Heard → Type 0
HadToWrite a heard = (waits a ≡ true) ⊎ (heard ≢ [])

-- the lines that were heard in so many turns, at most one in each
pub record Converses (limit : ℕ) (a : ConversationView) (p : CallerView) (b : ConversationView)
    (q : CallerView) (turns : ℕ)
    : Type 0 where
  pub heard : List Heard
  pub each : length heard ≤ turns
  pub talks : Talks limit a p b q (carried a.due) b.due heard
  pub waits : waits b ≡ true → HadToWrite a heard

-- the end of the last line that a conversation ends by; where it can write no more it stays due
abbrev pub end_by_line : ControlEnd → Option LineEnd → Option LineEnd
end_by_line ends.Closed due = None
end_by_line ends.ReadFault due = None
end_by_line ends.WriteFault due = due
end_by_line ends.Asked due = Some line_end.Asked
end_by_line ends.EraAsked due = Some line_end.EraAsked
end_by_line ends.Reloading due = Some line_end.Reloading
end_by_line (ends.Refused why) due = Some (line_end.Refused why)

-- all answers are written, and no end is due
pub record IsSettled (b : ConversationView) : Type 0 where
  pub left : b.left ≡ []
  pub due : b.due ≡ None

-- what holds at an end: unless a write failed, all answers are written; where the input ended or a
-- read failed, no whole line is left
abbrev pub EndsAt : ControlEnd → ConversationView → Type 0
EndsAt ends.Closed b = IsSettled b × Lacks 10 b.kept × IsAtEnd b.comes
EndsAt ends.ReadFault b = IsSettled b × Lacks 10 b.kept
EndsAt ends.WriteFault b = Unit {0}
EndsAt ends.Asked b = IsSettled b
EndsAt ends.EraAsked b = IsSettled b
EndsAt ends.Reloading b = IsSettled b
EndsAt (ends.Refused why) b = IsSettled b

-- the text is the answer that is left to write, nothing is made ready for it any more, and all
-- else is the same
abbrev pub IsTold : List ℕ → ConversationView → ConversationView → Type 0
IsTold text a b = b ≡ record a { left = text; out = false; prepared = false }

-- it is to end by the line `reload` again, and is silent until then; all else is the same
abbrev pub IsPutOff : Bool → ConversationView → ConversationView → Type 0
IsPutOff is_prepared a b = b ≡ record a {
  due = Some line_end.Reloading;
  silent = true;
  prepared = is_prepared;
}

-- the lines that were heard before a conversation ended so
pub record ConversedBy (end : ControlEnd) (limit : ℕ) (a : ConversationView) (p : CallerView)
    (b : ConversationView) (q : CallerView) (turns : ℕ)
    : Type 0 where
  pub heard : List Heard
  pub each : length heard ≤ turns
  pub talks : Talks limit a p b q (carried a.due) (end_by_line end b.due) heard
  pub ended : EndsAt end b
  pub fault : end ≡ ends.WriteFault → HadToWrite a heard

-- ---- parts of a turn

-- nothing was left to write; a line was heard, and its answer is left
pub record HearsLine (limit : ℕ) (a : ConversationView) (p : CallerView) (b : ConversationView)
    (q : CallerView)
    : Type 0 where
  pub line : Heard
  pub is : IsHeard limit p q line
  pub took : Takes a.comes b.comes a.kept b.kept (line.text ++ 10 ∷ [])
  pub gone : b.gone ≡ a.gone
  pub empty : a.left ≡ []
  pub left : b.left ≡ line.answer
  pub due : b.due ≡ end_of line.refused line.asked

-- no line was heard, and nothing was written
pub record HearsNone (a b : ConversationView) (why : NoLine) : Type 0 where
  pub took : TakesNoLine a.comes b.comes a.kept b.kept why
  pub gone : b.gone ≡ a.gone
  pub left : b.left ≡ a.left
  pub due : b.due ≡ a.due
  pub out : b.out ≡ a.out

-- the rest of the line is not there yet
abbrev pub is_not_yet : NoLine → Bool
is_not_yet NotYet = true
is_not_yet _ = false

-- the end that the last line left due
abbrev pub due_before : Option ControlEnd → Option LineEnd → Option LineEnd
due_before None due = due
due_before (Some end) due = end_by_line end due

-- what holds at an end, if it is one
abbrev pub EndsIf : Option ControlEnd → ConversationView → Type 0
EndsIf None b = Unit {0}
EndsIf (Some end) b = EndsAt end b

-- some of what was left was written
pub record Sends (a b : ConversationView) (end : Option ControlEnd) : Type 0 where
  pub comes : b.comes ≡ a.comes
  pub kept : b.kept ≡ a.kept
  pub wrote : Gives a.gone b.gone a.left b.left []
  pub due : a.due ≡ due_before end b.due
  pub ended : EndsIf end b
