use Rattle.std.proofs.Common.{◌≡◌, ℕ, ◌<◌, ◌==◌, false, take, get_or, length}
use Rattle.std.specs.List.{IsDistinct, list_any}
use Rattle.swim_rules.proofs.deal.are_distinct.Given as goal

-- the numbers so far differ, and they are those that were seen
abbrev pub invariant-loop-number : goal.invariant-loop-number
invariant-loop-number l =
    record {
      once : IsDistinct (λ m n. m == n) (take l.number-index l.numbers);
      all : length l.seen ≡ 256;
      seen : (n : ℕ) → n < 256 → get_or l.seen n false ≡ list_any (λ m. n == m) (take l.number-index l.numbers);
    }
