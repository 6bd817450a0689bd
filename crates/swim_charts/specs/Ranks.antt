-- Values by their rank.
use Rattle.std.specs.Prelude.{◌≡◌, ◌-◌, ◌*◌, ◌/◌, ◌<◌, ℕ, List, length, slice_get, slice_index}
use Rattle.std.specs.Prelude.{Option}
use Rattle.std.specs.Int.{div_ceil}
use Rattle.std.specs.Ordering.{nat_cmp}
use Rattle.std.specs.List.Sorted.{IsSorted, IsPermutation}
use Rattle.swim_charts.specs.declared.ranks.Spread.{Spread}

-- these are the least of the values, the middle one, of two the lesser, and the greatest:
-- where all values stand in order they are the first, the one half way to the last, and the last
pub record AreRanks (values : List ℕ) (s : Spread) : Type 0 where
  pub sorted : List ℕ
  pub same : IsPermutation values sorted
  pub ordered : IsSorted nat_cmp sorted
  pub some : 0 < length sorted
  pub least : slice_index sorted 0 ≡ s.least
  pub median : slice_index sorted ((length sorted - 1) / 2) ≡ s.median
  pub greatest : slice_index sorted (length sorted - 1) ≡ s.greatest

-- of values in order the one below which so many of 100 are, itself included: the last of their
-- first so many hundredths, rounded up, or the first value
abbrev pub of_hundred : ℕ → List ℕ → Option ℕ
of_hundred percent sorted = slice_get sorted (div_ceil (length sorted * percent) 100 - 1)
