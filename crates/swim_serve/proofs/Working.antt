-- What a worker has done, whatever its gate told.
use Rattle.std.proofs.Common.{ℕ, List}
use Rattle.std.specs.Prelude.{Option, Some, None}
use Rattle.swim_shell.specs.declared.gate.Turn.{Turn}
use Rattle.swim_shell.specs.Calls.{CallerView}
use Rattle.swim_shell.specs.Work.{Runs}
use Rattle.swim_serve.specs.Works.{LeftBy, Worked}

runs_worked : {S E : Type 0} (worked : S → CallerView → S → CallerView → ℕ → Type 0) (ended : E → S → CallerView → S → CallerView → ℕ → Type 0) (a b : S) (p q : CallerView) (s : Type 0) (t u : List Turn) (end : Option E) → Runs worked ended a p b q s t u end → Worked worked ended a p b q end
runs_worked worked ended a b p q s t u end runs = record { turns = runs.turns; done = runs.done }

-- what was said of workers by what contracts see of them
worked_seen : {S V E : Type 0} (see : S → V) (worked : V → CallerView → V → CallerView → ℕ → Type 0) (ended : E → V → CallerView → V → CallerView → ℕ → Type 0) (a b : S) (p q : CallerView) (end : Option E) → Worked (λ a p b q n. worked (see a) p (see b) q n) (λ end a p b q n. ended end (see a) p (see b) q n) a p b q end → Worked worked ended (see a) p (see b) q end
worked_seen see worked ended a b p q None w = record { turns = w.turns; done = w.done }
worked_seen see worked ended a b p q (Some end) w = record { turns = w.turns; done = w.done }

-- and parts are left of the caller of one that has run
pub runs_left : {S E P : Type 0} (worked : S → CallerView → S → CallerView → ℕ → Type 0) (ended : E → S → CallerView → S → CallerView → ℕ → Type 0) (parted : CallerView → P → Type 0) (a b : S) (p q : CallerView) (parts : P) (s : Type 0) (t u : List Turn) (end : Option E) → Runs worked ended a p b q s t u end → parted q parts → LeftBy (Worked worked ended) parted a p b parts end
runs_left worked ended parted a b p q parts s t u end runs left = record { known = q; did = runs_worked worked ended a b p q s t u end runs; left = left }

pub left_seen : {S V E P : Type 0} (see : S → V) (worked : V → CallerView → V → CallerView → ℕ → Type 0) (ended : E → V → CallerView → V → CallerView → ℕ → Type 0) (parted : CallerView → P → Type 0) (a b : S) (p : CallerView) (parts : P) (end : Option E) → LeftBy (Worked (λ a p b q n. worked (see a) p (see b) q n) (λ end a p b q n. ended end (see a) p (see b) q n)) parted a p b parts end → LeftBy (Worked worked ended) parted (see a) p (see b) parts end
left_seen see worked ended parted a b p parts end l = record { known = l.known; did = worked_seen see worked ended a b p l.known end l.did; left = l.left }
