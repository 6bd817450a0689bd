use Rattle.std.proofs.Common.{◌≡◌, ℕ, ◌+◌, ◌%◌, ◌<◌, get_or, length}
use Rattle.swim_rules.proofs.deal.Deal.from_first.Given as goal

-- those so far go up from the first
abbrev pub invariant-loop-place : goal.invariant-loop-place
invariant-loop-place l =
    record {
      all : length l.numbers ≡ 256;
      cyclic : (k : ℕ) → k < l.place → get_or l.numbers k 0 ≡ (l.first + k) % 256;
    }
