use Rattle.std.proofs.Common.{◌≡◌, ◌++◌, drop}
use Rattle.swim_record.specs.Recording.{calls_text}
use Rattle.swim_record.proofs.writer.write_calls.Given as goal

-- what was written and what is left are the calls
abbrev pub invariant-loop-entry : goal.invariant-loop-entry
invariant-loop-entry l = l.text.bytes.items ++ calls_text l.ceiling (drop l.entry-index l.entries) ≡ l.initial.text.bytes.items ++ calls_text l.granted l.entries
