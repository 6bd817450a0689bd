use Rattle.std.proofs.Common.{◌≡◌, ◌++◌, take}
use Rattle.swim_shell.specs.Counters.{lines_from}
use Rattle.swim_shell.specs.declared.counters.TheConstants.{NOTES_FROM}
use Rattle.swim_http.specs.Metrics.{note_sample}
use Rattle.swim_http.proofs.counted.write_notes.Given as goal

-- the metrics so far
abbrev pub invariant-loop-place : goal.invariant-loop-place
invariant-loop-place l = l.text.bytes.items ≡ l.initial.text.bytes.items ++ lines_from (note_sample l.group) NOTES_FROM (take l.place l.counts)
