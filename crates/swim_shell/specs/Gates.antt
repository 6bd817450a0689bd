-- What a gate answered a worker.
use Rattle.std.specs.Prelude.{◌≡◌, ℕ, zero, suc, List, [], ◌∷◌, ◌++◌, Option, Some, None}
use Rattle.swim_shell.specs.declared.gate.Turn.{Turn}
use Rattle.swim_shell.specs.declared.gate.Turn.TheVariants.{Go, Stop}

-- so many turns
abbrev pub turns_of_go : ℕ → List Turn
turns_of_go zero = []
turns_of_go (suc n) = Go ∷ turns_of_go n

-- the gate allowed so many turns, as far as it tells
pub record Went (tells : Type 0) (old new : List Turn) (n : ℕ) : Type 0 where
  pub told : tells → new ≡ old ++ turns_of_go n

-- the gate allowed so many turns, and then none
pub record Halted (tells : Type 0) (old new : List Turn) (n : ℕ) : Type 0 where
  pub told : tells → new ≡ old ++ (turns_of_go n ++ Stop ∷ [])

-- a worker had so many turns, and was stopped by its gate exactly where it did not end itself
abbrev pub Guided : {E : Type 0} → Option E → Type 0 → List Turn → List Turn → ℕ → Type 0
Guided None tells old new n = Halted tells old new n
Guided (Some end) tells old new n = Went tells old new n
