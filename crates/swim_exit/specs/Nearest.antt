-- Names that are alike.
use Rattle.std.specs.Prelude.{◌≡◌, ◌≤◌, ℕ, List, ◌++◌, length}

-- both begin alike, and go on so
abbrev pub StartAlike : (one other first second : List ℕ) → Type 0
StartAlike one other first second =
    (start : List ℕ) × (one ≡ start ++ first) × (other ≡ start ++ second)

-- both end alike, and begin so
abbrev pub EndAlike : (one other first second : List ℕ) → Type 0
EndAlike one other first second =
    (end : List ℕ) × (one ≡ first ++ end) × (other ≡ second ++ end)

-- both are alike but for so many letters of each at one place
pub record IsNear (letters : ℕ) (one other : List ℕ) : Type 0 where
  pub start : List ℕ
  pub end : List ℕ
  pub first : List ℕ
  pub second : List ℕ
  pub one_is : one ≡ start ++ (first ++ end)
  pub other_is : other ≡ start ++ (second ++ end)
  pub first_few : length first ≤ letters
  pub second_few : length second ≤ letters
