-- What the counts of a member say of a time between two of them.
use Rattle.std.specs.Prelude.{◌≡◌, ℕ, Option, Some}

-- both counts of datagrams are known, and none has come from the first to the second
pub record HasNone (before after : Option ℕ) : Type 0 where
  pub count : ℕ
  pub first : before ≡ Some count
  pub second : after ≡ Some count
