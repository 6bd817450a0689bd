use Rattle.std.proofs.Common.{◌≡◌, ◌≤◌, ◌+◌, drop}
use Rattle.swim_node.specs.History.{taken_in}
use Rattle.swim_node.proofs.journal.count_taken.Given as goal

-- the count so far, and of what is left
abbrev pub invariant-loop-outcome : goal.invariant-loop-outcome
invariant-loop-outcome l = record { total : l.count + taken_in (drop l.outcome-index l.outcomes) ≡ taken_in l.outcomes; bound : l.count ≤ l.outcome-index }
