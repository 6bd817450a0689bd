-- The rule of the history, and what its steps tell.
use Rattle.std.specs.Prelude.{ℕ, zero, suc, ◌≡◌, ◌==◌, ◌+◌, ◌⊎◌, true, false, MatchBool}
use Rattle.std.specs.Prelude.{List, [], ◌∷◌, ◌++◌, length}
use Rattle.logbook.specs.Pages.{Cell, Step, View, Book, Named, nib, may_make, may_write}
use Rattle.logbook.specs.declared.tokens.Pen.{Pen}
use Rattle.swim_node.specs.declared.entry.Entry.{Entry}
use Rattle.swim_shared.specs.Passes.{Sight}

-- so many cells that are at home and hold 0
abbrev pub home_cells : ℕ → List Cell
home_cells zero = []
home_cells (suc n) = (0, true) ∷ home_cells n

-- twice the length, and nobody may add
abbrev pub IsAtRest : List Cell → ℕ → Type 0
IsAtRest cells n = cells ≡ (n + n, true) ∷ (0, true) ∷ home_cells n

-- twice the length and one, and who may write the last cell may add
abbrev pub IsClaimed : List Cell → ℕ → Type 0
IsClaimed cells n = cells ≡ (n + n + 1, true) ∷ (0, true) ∷ (home_cells n ++ (0, false) ∷ [])

-- the cells go with the history
abbrev pub IsKept : List Cell → List Entry → Type 0
IsKept cells log = IsAtRest cells (length log) ⊎ IsClaimed cells (length log)

-- the word that all who add share
abbrev pub head_of : Book → Named
head_of b = record { tracked = true; key = 0; book = b }

-- the key of the cell for the next entry
abbrev pub next_key : List Entry → ℕ
next_key log = suc (suc (length log))

-- the pen is the right to add to this history
abbrev pub MayAdd : Sight → Pen → Type 0
MayAdd s pen = (pen.book ≡ s.book) × (pen.nib ≡ nib may_write (next_key s.entries) 0)

-- where the number found is the one expected, nothing was added, and the pen is for the next cell
abbrev pub Claims : Step Entry → View Entry ℕ → ℕ → View Entry ℕ → Type 0
Claims s v found w = MatchBool (found == s.old) (w.1.0 ≡ nib may_make (next_key v.0) 0) (Unit {0})

-- the entry was added to all that had been seen
abbrev pub Adds : Step Entry → View Entry ℕ → ℕ → View Entry ℕ → Type 0
Adds s v found w = w.0 ≡ v.0 ++ s.ask ∷ []
