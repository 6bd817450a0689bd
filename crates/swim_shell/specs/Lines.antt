-- How the lines of an input are read.
use Rattle.std.specs.Prelude.{◌≡◌, ◌≢◌, ℕ, ◌<◌, ◌≤◌, Bool, true, false, List, [], ◌∷◌, ◌++◌, length}
use Rattle.std.specs.Prelude.{Option, Some, None, Result, Ok, Err}
use Rattle.std.specs.Io.KnownBytes.{Consumes, IsAtEnd}
use Rattle.std.specs.IoError.{error_kind}
use Rattle.std.specs.declared.io.Error.{Error}
use Rattle.std.specs.declared.io.ErrorKind.{ErrorKind}
use Rattle.std.specs.declared.io.ErrorKind.TheVariants.{Interrupted, WouldBlock}
use Rattle.swim_words.specs.Words.{Lacks}
use Rattle.swim_shell.specs.declared.lines.TheConstants.{LINE_MAX}
use Rattle.swim_shell.specs.declared.lines.LineText.{LineText}
use Rattle.swim_shell.specs.declared.lines.LineText.TheVariants.{Text, Long}
use Rattle.swim_shell.specs.declared.lines.NoLine.{NoLine}
use Rattle.swim_shell.specs.declared.lines.NoLine.TheVariants.{NotYet, Ended, Failed}

-- of what was kept and what came from a reader these bytes are gone, and the rest is kept
pub record Takes (old new : Option (List ℕ)) (kept rest bytes : List ℕ) : Type 0 where
  pub came : List ℕ
  pub took : Consumes old new came
  pub whole : kept ++ came ≡ bytes ++ rest

-- what a read of one byte tells; where it fails nothing is kept
abbrev pub ReadsByte : {E : Type 0} → Option (List ℕ) → Option (List ℕ) → List ℕ → List ℕ
    → Result (Option ℕ) E → Type 0
ReadsByte old new kept rest (Ok (Some byte)) = Takes old new kept rest (byte ∷ [])
ReadsByte old new kept rest (Ok None) = Takes old new kept rest [] × IsAtEnd new × (rest ≡ [])
ReadsByte old new kept rest (Err _) = Takes old new kept rest [] × (rest ≡ [])

-- how the bytes before an end of line are kept
abbrev pub IsLine : List ℕ → LineText → Type 0
IsLine text (Text v) = (length text ≤ LINE_MAX) × (v.items ≡ text)
IsLine text Long = LINE_MAX < length text

-- a line so far: its bytes, as many as fit, and whether they are too many
pub record IsPart (long : Bool) (text bytes : List ℕ) : Type 0 where
  pub lacks : Lacks 10 bytes
  pub fits : length text ≤ LINE_MAX
  pub whole : long ≡ false → text ≡ bytes
  pub over : long ≡ true → LINE_MAX < length bytes

-- a line was read, with its end
pub record TakesLine (old new : Option (List ℕ)) (kept rest : List ℕ) (line : LineText)
    : Type 0 where
  pub text : List ℕ
  pub took : Takes old new kept rest (text ++ 10 ∷ [])
  pub lacks : Lacks 10 text
  pub is : IsLine text line

-- no line came, and no byte is lost; where the input ended or a read failed, what is kept is the
-- part of one line
pub record TakesNoLine (old new : Option (List ℕ)) (kept rest : List ℕ) (why : NoLine)
    : Type 0 where
  pub took : Takes old new kept rest []
  pub ended : why ≡ Ended → IsAtEnd new
  pub lacks : why ≢ NotYet → Lacks 10 rest

-- why no line comes after a read that failed so; none if it is tried again
abbrev pub fault_at : ErrorKind → Option NoLine
fault_at Interrupted = None
fault_at WouldBlock = Some NotYet
fault_at _ = Some Failed

-- after this answer of a read of one byte the line goes on
abbrev pub ReadsOn : Result (Option ℕ) Error → Type 0
ReadsOn (Ok (Some byte)) = byte ≢ 10
ReadsOn (Ok None) = ⊥
ReadsOn (Err e) = fault_at (error_kind e) ≡ None

-- after this one no line comes, for that reason
abbrev pub EndsFor : NoLine → Result (Option ℕ) Error → Type 0
EndsFor why (Ok (Some byte)) = ⊥
EndsFor why (Ok None) = why ≡ Ended
EndsFor why (Err e) = fault_at (error_kind e) ≡ Some why
