use Rattle.std.proofs.Common.{◌≡◌, take, false}
use Rattle.swim_handle.specs.Notes.{has_note}
use Rattle.swim_handle.proofs.call_log.has_note.Given as goal

-- none of those so far has it
abbrev pub invariant-loop-note : goal.invariant-loop-note
invariant-loop-note l = has_note l.fn.wanted (take l.note-index l.notes) ≡ false
