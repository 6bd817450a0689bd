-- What comes of writing an answer.
use Rattle.std.specs.Prelude.{◌≡◌, Bool, true, false, Option, Some, None, Result, Ok, Err}
use Rattle.std.specs.IoError.{error_kind}
use Rattle.std.specs.declared.io.Error.{Error}
use Rattle.std.specs.declared.io.ErrorKind.{ErrorKind}
use Rattle.std.specs.declared.io.ErrorKind.TheVariants.{Interrupted, WouldBlock}
use Rattle.swim_shell.specs.declared.answer_writer.WriteOutcome.{WriteOutcome}
use Rattle.swim_shell.specs.declared.answer_writer.WriteOutcome.TheVariants.{Out, NotYet, Failed}

-- what came of writing after a write or a flush that failed so; none if it is tried again
abbrev pub sent_by : ErrorKind → Option WriteOutcome
sent_by Interrupted = None
sent_by WouldBlock = Some NotYet
sent_by _ = Some Failed

-- after this answer of a step there are more
abbrev pub WritesOn : Result Bool Error → Type 0
WritesOn (Ok false) = Unit {0}
WritesOn (Ok true) = ⊥
WritesOn (Err e) = sent_by (error_kind e) ≡ None

-- after this one that came of it
abbrev pub EndsWith : WriteOutcome → Result Bool Error → Type 0
EndsWith sent (Ok true) = sent ≡ Out
EndsWith sent (Ok false) = ⊥
EndsWith sent (Err e) = sent_by (error_kind e) ≡ Some sent
