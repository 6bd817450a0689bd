-- What comes of trying again and again.
use Rattle.std.specs.Prelude.{◌≡◌, ◌⊎◌, ℕ, List, [], ◌∷◌, ◌++◌, length, All}

-- the last of these answers is an end, and no other
pub record EndsLast {A : Type 0} (GoesOn Ends : A → Type 0) (answers : List A) : Type 0 where
  pub before : List A
  pub last : A
  pub are : answers ≡ before ++ last ∷ []
  pub went_on : All GoesOn before
  pub ends : Ends last

-- there were as many answers as there may be, and none was an end
pub record TriesAll {A : Type 0} (GoesOn : A → Type 0) (most : ℕ) (answers : List A) : Type 0 where
  pub count : length answers ≡ most
  pub went_on : All GoesOn answers

-- it was tried until an answer was an end; or as often as it may be, and then this holds
pub record Tried {A : Type 0} (GoesOn Ends : A → Type 0) (most : ℕ) (Last : Type 0)
    (old new : List A)
    : Type 0 where
  pub answers : List A
  pub are : new ≡ old ++ answers
  pub end : EndsLast GoesOn Ends answers ⊎ (TriesAll GoesOn most answers × Last)
