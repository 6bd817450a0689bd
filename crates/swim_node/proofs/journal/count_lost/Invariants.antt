use Rattle.std.proofs.Common.{◌≡◌, ◌≤◌, ◌+◌, drop}
use Rattle.swim_node.specs.History.{lost_in}
use Rattle.swim_node.proofs.journal.count_lost.Given as goal

-- the count so far, and of what is left
abbrev pub invariant-loop-outcome : goal.invariant-loop-outcome
invariant-loop-outcome l = record { total : l.count + lost_in (drop l.outcome-index l.outcomes) ≡ lost_in l.outcomes; bound : l.count ≤ l.outcome-index }
