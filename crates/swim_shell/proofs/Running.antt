-- Turns of a worker, put together.
use Rattle.std.proofs.Common.{◌≡◌, ℕ, ◌+◌, List, [], ◌∷◌, ◌++◌, refl}
use Rattle.std.specs.Prelude.{Some, None}
use Rattle.swim_shell.specs.declared.gate.Turn.{Turn}
use Rattle.swim_shell.specs.declared.gate.Turn.TheVariants.{Go, Stop}
use Rattle.swim_shell.specs.Calls.{CallerView}
use Rattle.swim_shell.specs.Work.{Starts, Goes, Runs, Running, LastOf}
use Rattle.swim_shell.proofs.Gating.{went_none, went_more, halts}

pub runs_start : {S : Type 0} (worked : S → CallerView → S → CallerView → ℕ → Type 0) (a b : S) (p : CallerView) (s : Type 0) (t : List Turn) → Starts worked a b → Running worked a p b p s t t
runs_start worked a b p s t start = record { turns = 0; went = went_none s t; done = start p }

pub runs_on : {S : Type 0} (worked : S → CallerView → S → CallerView → ℕ → Type 0) (a b c : S) (p q r : CallerView) (s : Type 0) (t u v : List Turn) → Running worked a p b q s t u → (s → v ≡ u ++ Go ∷ []) → Goes worked worked b q c r → Running worked a p c r s t v
runs_on worked a b c p q r s t u v w go on = record { turns = w.turns + 1; went = went_more s t u v w.turns w.went go; done = on a p w.turns w.done }

pub runs_stopped : {S E : Type 0} (worked : S → CallerView → S → CallerView → ℕ → Type 0) (ended : E → S → CallerView → S → CallerView → ℕ → Type 0) (a b : S) (p q : CallerView) (s : Type 0) (t u v : List Turn) → Running worked a p b q s t u → (s → v ≡ u ++ Stop ∷ []) → Runs worked ended a p b q s t v None
runs_stopped worked ended a b p q s t u v w stop = record { turns = w.turns; went = halts s t u v w.turns w.went stop; done = w.done }

pub runs_ended : {S E : Type 0} (worked : S → CallerView → S → CallerView → ℕ → Type 0) (ended : E → S → CallerView → S → CallerView → ℕ → Type 0) (a b c : S) (p q r : CallerView) (s : Type 0) (t u v : List Turn) (end : E) → Running worked a p b q s t u → (s → v ≡ u ++ Go ∷ []) → Goes worked (ended end) b q c r → Runs worked ended a p c r s t v (Some end)
runs_ended worked ended a b c p q r s t u v end w go on = record { turns = w.turns + 1; went = went_more s t u v w.turns w.went go; done = on a p w.turns w.done }

-- a last turn, after whatever was done before it
pub last_turn : {S : Type 0} (worked : S → CallerView → S → CallerView → ℕ → Type 0) (ending : S → CallerView → S → CallerView → Type 0) (a b : S) (p q : CallerView) → ending a p b q → Goes worked (LastOf worked ending) a p b q
last_turn worked ending a b p q last = λ s r n w. record { then = a; seen = p; before = n; done = w; last = last; turns_are = refl }
