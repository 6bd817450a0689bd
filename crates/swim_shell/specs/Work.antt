-- What a worker does in its turns.
use Rattle.std.specs.Prelude.{◌≡◌, ℕ, ◌+◌, List, Option, Some, None}
use Rattle.swim_shell.specs.declared.gate.Turn.{Turn}
use Rattle.swim_shell.specs.Calls.{CallerView}
use Rattle.swim_shell.specs.Gates.{Went, Guided}

-- without a turn nothing is done, whoever the caller is
abbrev pub Starts : {S : Type 0} → (S → CallerView → S → CallerView → ℕ → Type 0) → S → S → Type 0
Starts worked a b = (p : CallerView) → worked a p b p 0

-- whatever was done up to here, this is done after one turn more
abbrev pub Goes : {S : Type 0} → (S → CallerView → S → CallerView → ℕ → Type 0)
    → (S → CallerView → S → CallerView → ℕ → Type 0) → S → CallerView → S → CallerView → Type 0
Goes {S} worked then a p b q =
    (s : S) → (r : CallerView) → (n : ℕ) → worked s r a p n → then s r b q (n + 1)

-- what is done after so many turns, the last of which ended the worker so, if one did
abbrev pub DoneBy : {S E : Type 0} → (S → CallerView → S → CallerView → ℕ → Type 0)
    → (E → S → CallerView → S → CallerView → ℕ → Type 0) → S → CallerView → S → CallerView → ℕ
    → Option E → Type 0
DoneBy worked ended a p b q n None = worked a p b q n
DoneBy worked ended a p b q n (Some end) = ended end a p b q n

-- a worker had turns until its gate stopped it, or until a turn ended it
pub record Runs {S E : Type 0} (worked : S → CallerView → S → CallerView → ℕ → Type 0)
    (ended : E → S → CallerView → S → CallerView → ℕ → Type 0) (a : S) (p : CallerView) (b : S)
    (q : CallerView) (tells : Type 0) (t u : List Turn) (end : Option E)
    : Type 0 where
  pub turns : ℕ
  pub went : Guided end tells t u turns
  pub done : DoneBy worked ended a p b q turns end

-- so far
pub record Running {S : Type 0} (worked : S → CallerView → S → CallerView → ℕ → Type 0) (a : S)
    (p : CallerView) (b : S) (q : CallerView) (tells : Type 0) (t u : List Turn)
    : Type 0 where
  pub turns : ℕ
  pub went : Went tells t u turns
  pub done : worked a p b q turns

-- n turns, and then this last one, of a worker
pub record LastOf {S : Type 0} (worked : S → CallerView → S → CallerView → ℕ → Type 0)
    (ending : S → CallerView → S → CallerView → Type 0) (a : S) (p : CallerView) (b : S)
    (q : CallerView)
    (turns : ℕ)
    : Type 0 where
  pub then : S
  pub seen : CallerView
  pub before : ℕ
  pub done : worked a p then seen before
  pub last : ending then seen b q
  pub turns_are : turns ≡ before + 1
