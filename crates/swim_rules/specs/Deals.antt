-- Deals: the numbers below `ROWS_MAX` in some order, each once.
use Rattle.std.specs.Prelude.{◌≡◌, ℕ, ◌+◌, ◌%◌, ◌<◌, ◌==◌, List, map, length, All}
use Rattle.std.specs.List.{IsDistinct, range_with_len}
use Rattle.swim_rules.specs.declared.table.TheConstants.{ROWS_MAX}

-- as many numbers as there can be rows, each below that, and no two of them equal
pub record IsDeal (numbers : List ℕ) : Type 0 where
  pub all : length numbers ≡ ROWS_MAX
  pub below : All (λ n. n < ROWS_MAX) numbers
  pub once : IsDistinct (λ m n. m == n) numbers

-- the deal that begins with this number and goes up cyclically
abbrev pub deal_from : ℕ → List ℕ
deal_from first = map (λ i. (first + i) % ROWS_MAX) (range_with_len 0 ROWS_MAX)
