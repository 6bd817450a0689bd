-- What a worker has done when it comes back from its thread.
use Rattle.std.specs.Prelude.{ℕ, Option}
use Rattle.swim_shell.specs.Calls.{CallerView}
use Rattle.swim_shell.specs.Work.{DoneBy, LastOf}
use Rattle.swim_shell.specs.Inbounds.{ReceiverView, Receiving, ReceivesLast}
use Rattle.swim_shell.specs.Ticks.{Ticking, TicksInVain}
use Rattle.swim_shell.specs.Losses.{OutgoingView, Sending, TellsInVain}
use Rattle.swim_shell.specs.declared.caller.Refusal.{Refusal}
use Rattle.swim_shell.specs.declared.worker.WorkerEnd.{WorkerEnd}
use Rattle.swim_shell.specs.declared.conversation.ControlEnd.{ControlEnd}
use Rattle.rand_chacha.specs.ChaCha.{ChaCha}
use Rattle.swim_handle.specs.declared.crew.Crew.{Crew}

-- the worker had some turns, and the last of them ended it so, if one did
pub record Worked {S E : Type 0} (worked : S → CallerView → S → CallerView → ℕ → Type 0)
    (ended : E → S → CallerView → S → CallerView → ℕ → Type 0) (a : S) (p : CallerView) (b : S)
    (q : CallerView) (end : Option E)
    : Type 0 where
  pub turns : ℕ
  pub done : DoneBy worked ended a p b q turns end

-- a worker did so by a caller that knew so much at first, and these parts are left of that
pub record LeftBy {S E P : Type 0} (does : S → CallerView → S → CallerView → Option E → Type 0)
    (parted : CallerView → P → Type 0) (a : S) (p : CallerView) (b : S) (parts : P)
    (end : Option E)
    : Type 0 where
  pub known : CallerView
  pub did : does a p b known end
  pub left : parted known parts

-- a receiver entered what came, as long as the caller was answered
abbrev pub Received : Type 0 → ℕ → ReceiverView → CallerView → ReceiverView → CallerView
    → Option WorkerEnd → Type 0
Received tells limit = Worked (Receiving tells) (λ end. LastOf (Receiving tells)
    (ReceivesLast tells limit end))

-- a ticker ticked by the deals of its generator
abbrev pub Ticked : ℕ → ChaCha → CallerView → ChaCha → CallerView → Option Refusal → Type 0
Ticked limit = Worked Ticking (λ why. LastOf Ticking (TicksInVain limit why))

-- a sender handed on what waited, and told what was lost
abbrev pub Sent : Type 0 → ℕ → OutgoingView → CallerView → OutgoingView → CallerView
    → Option Refusal → Type 0
Sent tells limit = Worked (Sending tells) (λ why. LastOf (Sending tells)
    (TellsInVain tells limit why))

-- how the workers of an era ended themselves; none for one that its gate stopped
abbrev pub EraEnds : Type 0
EraEnds = Crew (Option WorkerEnd) (Option Refusal) (Option Refusal) (Option ControlEnd)
