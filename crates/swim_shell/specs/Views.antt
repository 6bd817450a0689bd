-- What contracts see of a conversation.
use Rattle.std.specs.Prelude.{◌≡◌, ℕ, nat_le, Bool, true, false, not, if◌then◌else◌}
use Rattle.std.specs.Prelude.{Option, Some, None, List, [], ◌++◌, length, drop}
use Rattle.swim_shell.specs.declared.lines.ByteReader.{ByteReader}
use Rattle.swim_shell.specs.declared.lines.LineReader.{LineReader}
use Rattle.swim_shell.specs.declared.answer_writer.AnswerWriter.{AnswerWriter}
use Rattle.swim_shell.specs.declared.conversation.LineEnd.{LineEnd}

-- the bytes that were read and not yet given
abbrev pub ahead_of : {Rd : Type 0} → ByteReader Rd → List ℕ
ahead_of r = drop r.next r.ahead.items

-- the bytes that were read and are of no line that was given
abbrev pub kept_of : {Rd : Type 0} → LineReader Rd → List ℕ
kept_of r = r.part.bytes ++ ahead_of r.input

-- the bytes that are still to be written
abbrev pub left_of : {Wr : Type 0} → AnswerWriter Wr → List ℕ
left_of w = drop w.written w.answer.bytes

-- the last answer is written and flushed
abbrev pub is_out : {Wr : Type 0} → AnswerWriter Wr → Bool
is_out w = if w.is_flushed then nat_le (length w.answer.bytes) w.written else false

-- it is, and nothing that was written is not flushed
pub record IsFlushed {Wr : Type 0} (w : AnswerWriter Wr) : Type 0 where
  pub out : is_out w ≡ true
  pub none : w.unflushed ≡ []

-- an answer is on its way while it is not out, or an end is due for it
abbrev pub is_waiting : Option LineEnd → Bool → Bool
is_waiting (Some due) out = true
is_waiting None out = not out

-- what is still to be read, what was read and is of no line that was heard, what was written, what
-- is still to be written, whether it is all out, and how the conversation is to end once it is;
-- whether nothing had come in its last turn; and whether what its line `reload` asks for is being
-- made ready
pub record ConversationView : Type 0 where
  pub comes : Option (List ℕ)
  pub kept : List ℕ
  pub gone : Option (List ℕ)
  pub left : List ℕ
  pub out : Bool
  pub due : Option LineEnd
  pub silent : Bool
  pub prepared : Bool

-- an answer is on its way
abbrev pub waits : ConversationView → Bool
waits c = is_waiting c.due c.out
