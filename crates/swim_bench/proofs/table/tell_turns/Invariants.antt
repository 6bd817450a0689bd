use Rattle.std.proofs.Common.{◌≡◌, ◌≤◌}
use Rattle.swim_bench.proofs.table.tell_turns.Given as goal

abbrev pub invariant-loop-turn : goal.invariant-loop-turn
invariant-loop-turn l = (l.accepted ≤ l.turn) × (l.table.me ≡ l.me)
