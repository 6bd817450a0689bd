use Rattle.std.proofs.Common.{◌≡◌, ◌≤◌, length, take}
use Rattle.swim_node.proofs.replay.fates.Given as goal

-- so many outcomes, and those that were told where enough were
abbrev pub invariant-loop-place : goal.invariant-loop-place
invariant-loop-place l =
    record { each : length l.outcomes.items ≡ l.place; again : l.count ≤ length l.told → l.outcomes.items ≡ take l.place l.told }
