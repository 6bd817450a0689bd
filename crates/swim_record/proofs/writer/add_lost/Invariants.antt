use Rattle.std.proofs.Common.{◌≡◌, ◌+◌, ◌++◌, drop}
use Rattle.swim_record.specs.Recording.{lost_lines}
use Rattle.swim_record.proofs.writer.add_lost.Given as goal

-- the lost ones so far, and those that are left
abbrev pub invariant-loop-outcome : goal.invariant-loop-outcome
invariant-loop-outcome l =
    record {
      place : l.place ≡ l.outcome-index + 1;
      lines : l.lines.items ++ lost_lines l.place (drop l.outcome-index l.outcomes) ≡ l.initial.lines.items ++ lost_lines 1 l.outcomes;
    }
