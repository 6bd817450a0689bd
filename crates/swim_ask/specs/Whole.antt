-- When the answer to a control line is whole.
use Rattle.std.specs.Prelude.{◌≡◌, ◌⊎◌, ℕ, ◌+◌, ◌^◌, ◌<◌, ◌≤◌, ◌==◌, List, ◌++◌, codes}
use Rattle.std.specs.Prelude.{count_by}
use Rattle.std.specs.Fmt.{decimal}
use Rattle.std.specs.Io.{StartsWith}
use Rattle.swim_words.specs.Words.{split_by}

-- the line asks for members or counters
abbrev pub AsksLines : List ℕ → Type 0
AsksLines line =
    (line ≡ codes "members") ⊎ (StartsWith line (codes "members ") ⊎ (line ≡ codes "counters"))

-- the first line of the answer says that so many follow
pub record TellsMore (answer : List ℕ) (more : ℕ) : Type 0 where
  pub rest : List ℕ
  pub says : answer ≡ codes "ok " ++ split_by 10 (decimal more) rest
  pub small : more < 2 ^ 64

-- so many lines follow the first one of the answer to this line
abbrev pub Follow : List ℕ → List ℕ → ℕ → Type 0
Follow line answer more =
    (AsksLines line × TellsMore answer more)
    ⊎ (¬ (AsksLines line × ((n : ℕ) × TellsMore answer n)) × (more ≡ 0))

-- how many lines of the text have ended
abbrev pub ends : List ℕ → ℕ
ends text = count_by (λ byte. byte == 10) text

-- the first line of the answer has ended, and each of those that follow it
pub record IsWhole (line answer : List ℕ) : Type 0 where
  pub first : 1 ≤ ends answer
  pub others : (more : ℕ) → Follow line answer more → more + 1 ≤ ends answer
