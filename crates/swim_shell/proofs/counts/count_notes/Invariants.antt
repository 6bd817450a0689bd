use Rattle.std.proofs.Common.{◌≡◌, drop}
use Rattle.swim_shell.specs.CallCounts.{with_notes}
use Rattle.swim_shell.proofs.counts.count_notes.Given as goal

-- those to come make of the counts what all of them are to
abbrev pub invariant-loop-note : goal.invariant-loop-note
invariant-loop-note l = with_notes (drop l.note-index l.notes) l.counts ≡ with_notes l.notes l.fn.counts
