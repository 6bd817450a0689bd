use Rattle.std.proofs.Common.{take}
use Rattle.std.specs.List.{All}
use Rattle.swim_node.specs.declared.entry.Entry.{Entry}
use Rattle.swim_node.specs.Node.{HasCaller}
use Rattle.swim_replay.specs.Recorded.{IsRecordedCall}
use Rattle.swim_replay.proofs.recorded.entries_are_fit.Given as goal

-- the entries so far
abbrev pub invariant-loop-entry : goal.invariant-loop-entry
invariant-loop-entry l = All (λ (e : Entry). HasCaller e → IsRecordedCall e) (take l.entry-index l.entries)
