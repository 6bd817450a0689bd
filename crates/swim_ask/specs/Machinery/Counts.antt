-- Counts that follow one another in an answer, and those of a status.
use Rattle.std.specs.Prelude.{◌≡◌, ℕ, ◌+◌, ◌^◌, ◌<◌, List, [], ◌∷◌, ◌++◌, length, All}
use Rattle.std.specs.Prelude.{codes, get_or}
use Rattle.std.specs.Fmt.{decimal}

-- counts from a place on, each after the name and before the byte that its place has
abbrev pub counts_from : (ℕ → List ℕ × ℕ) → ℕ → List ℕ → List ℕ
counts_from at place [] = []
counts_from at place (count ∷ counts) =
    ((at place).0 ++ 32 ∷ decimal count) ++ (at place).1 ∷ counts_from at (place + 1) counts

-- the text is so many such counts, each of which is below 2^64
pub record SaysCounts (at : ℕ → List ℕ × ℕ) (many : ℕ) (text counts : List ℕ) : Type 0 where
  pub says : text ≡ counts_from at 0 counts
  pub whole : length counts ≡ many
  pub small : All (λ count. count < 2 ^ 64) counts

-- the name of the count of a status at a place, and the byte that ends it: those of the last one
-- beyond it
abbrev pub status_at : ℕ → List ℕ × ℕ
status_at place =
    let before =
    (codes "number", 32) ∷ (codes "alive", 32) ∷ (codes "suspect", 32)
    ∷ (codes "confirmed", 32) ∷ [] in
    get_or before place (codes "length", 10)
