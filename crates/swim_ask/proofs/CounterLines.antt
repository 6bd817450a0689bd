-- The lines of counters are counts, one after the other.
use Rattle.std.proofs.Common.{◌≡◌, ◌+◌, ◌^◌, ◌<◌, ℕ, List, [], ◌∷◌, ◌++◌, append_assoc, refl, sym, ◌∙◌, ap, inl, arith}
use Rattle.std.specs.Prelude.{codes}
use Rattle.std.specs.Fmt.{decimal}
use Rattle.swim_member.specs.declared.note.Note.{Note}
use Rattle.swim_member.specs.declared.note.Note.TheVariants as note
use Rattle.swim_member.specs.Texts.{note_name}
use Rattle.swim_shell.specs.declared.counters.Counter.{Counter}
use Rattle.swim_shell.specs.declared.counters.Counter.TheVariants as counter
use Rattle.swim_shell.specs.Counters.{counter_at, counter_line, counter_name, counters_text, lines_from}
use Rattle.swim_words.specs.Words.{Lacks}
use Rattle.swim_words.proofs.Splits.{lacks_byte}
use Rattle.swim_ask.specs.Answers.{SaysCounters}
use Rattle.swim_ask.specs.Machinery.Counts.{SaysCounts, counts_from}
use Rattle.swim_ask.proofs.Counted.{AreNames}
use Rattle.swim_ask.proofs.Counts.{count_text, same_count}

-- a name is one word
note_lacks : (n : Note) → Lacks 32 (note_name n)
note_lacks (note.BadDatagram fault) = lacks_byte 32 (codes "BadDatagram") refl
note_lacks note.OtherGroup = lacks_byte 32 (codes "OtherGroup") refl
note_lacks note.NotSender = lacks_byte 32 (codes "NotSender") refl
note_lacks note.FromSelf = lacks_byte 32 (codes "FromSelf") refl
note_lacks note.Leap = lacks_byte 32 (codes "Leap") refl
note_lacks note.NoNumberLeft = lacks_byte 32 (codes "NoNumberLeft") refl
note_lacks note.TableFull = lacks_byte 32 (codes "TableFull") refl
note_lacks note.Misdirected = lacks_byte 32 (codes "Misdirected") refl
note_lacks note.RelaysFull = lacks_byte 32 (codes "RelaysFull") refl
note_lacks note.UnknownTarget = lacks_byte 32 (codes "UnknownTarget") refl
note_lacks note.Unasked = lacks_byte 32 (codes "Unasked") refl
note_lacks note.SaveFailed = lacks_byte 32 (codes "SaveFailed") refl
note_lacks note.Expelled = lacks_byte 32 (codes "Expelled") refl
note_lacks note.Stopped = lacks_byte 32 (codes "Stopped") refl
note_lacks note.ReceiveFailed = lacks_byte 32 (codes "ReceiveFailed") refl
note_lacks (note.SendFailed count) = lacks_byte 32 (codes "SendFailed") refl
note_lacks note.TimeOver = lacks_byte 32 (codes "TimeOver") refl
note_lacks note.OtherVersion = lacks_byte 32 (codes "OtherVersion") refl

pub name_lacks : (c : Counter) → Lacks 32 (counter_name c)
name_lacks counter.Eras = lacks_byte 32 (codes "eras") refl
name_lacks counter.NumberSaves = lacks_byte 32 (codes "number_saves") refl
name_lacks counter.PeerSaves = lacks_byte 32 (codes "peer_saves") refl
name_lacks counter.PeerSavesFailed = lacks_byte 32 (codes "peer_saves_failed") refl
name_lacks counter.Entries = lacks_byte 32 (codes "entries") refl
name_lacks counter.Ticks = lacks_byte 32 (codes "ticks") refl
name_lacks counter.Joins = lacks_byte 32 (codes "joins") refl
name_lacks counter.Received = lacks_byte 32 (codes "datagrams_received") refl
name_lacks counter.ReceiveFailures = lacks_byte 32 (codes "receive_failures") refl
name_lacks counter.Sent = lacks_byte 32 (codes "datagrams_sent") refl
name_lacks counter.Lost = lacks_byte 32 (codes "datagrams_lost") refl
name_lacks counter.Refutations = lacks_byte 32 (codes "refutations") refl
name_lacks (counter.Noted n) = note_lacks n

-- the name of the counter at a place, and the byte that ends its line
abbrev pub line_at : ℕ → List ℕ × ℕ
line_at place = (counter_name (counter_at place), 10)

pub line_names : AreNames line_at
line_names place = (name_lacks (counter_at place), inl (omega arith))

-- the words of a line are its text
words_of_line : (name digits rest : List ℕ) → (name ++ 32 ∷ digits) ++ 10 ∷ rest ≡ (name ++ (codes " " ++ (digits ++ codes "\n"))) ++ rest
words_of_line name digits rest =
    append_assoc name (32 ∷ digits) (10 ∷ rest)
    ∙ ap (λ w. name ++ 32 ∷ w) (sym (append_assoc digits (codes "\n") rest))
    ∙ sym (append_assoc name (codes " " ++ (digits ++ codes "\n")) rest)

-- lines of counters are such counts
lines_are : (place : ℕ) (values : List ℕ) → lines_from counter_line place values ≡ counts_from line_at place values
lines_are place [] = refl
lines_are place (value ∷ values) =
    let name : List ℕ = counter_name (counter_at place) in
    ap (λ w. counter_line (counter_at place) value ++ w) (lines_are (place + 1) values)
    ∙ sym (words_of_line name (decimal value) (counts_from line_at (place + 1) values))

-- an answer of so many counts is that of counters
pub all_told : (answer left values : List ℕ) (lines : ℕ) → lines ≡ 30 → answer ≡ count_text (codes "ok") lines 10 left → left ≡ counts_from line_at 0 values → answer ≡ counters_text values
all_told answer left values lines same is are =
    is
    ∙ ap (λ n. count_text (codes "ok") n 10 left) same
    ∙ ap (λ w. count_text (codes "ok") 30 10 w) (are ∙ sym (lines_are 0 values))

-- an answer that says counters begins with how many there are, and then has their counts
pub same_head : (answer left values : List ℕ) (lines : ℕ) → lines < 2 ^ 64 → answer ≡ count_text (codes "ok") lines 10 left → SaysCounters answer values → (lines ≡ 30) × SaysCounts line_at 30 left values
same_head answer left values lines fits is says =
    let same = same_count answer (codes "ok") left (lines_from counter_line 0 values) 10 lines 30 (inl (omega arith)) fits (omega arith) is says.says in
    (same.0, record { says = same.1 ∙ lines_are 0 values; whole = says.whole; small = says.small })
