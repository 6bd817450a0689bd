-- What waits to be sent.
use Rattle.std.specs.Prelude.{ℕ, List, [], ◌∷◌}
use Rattle.swim_library.specs.declared.outbox.Waiting.{Waiting}

-- destination and bytes of a datagram that waits
abbrev pub sent_as : Waiting → ℕ × List ℕ
sent_as w = (w.to, w.bytes.items)

-- of all of them, in order
abbrev pub all_as : List Waiting → List (ℕ × List ℕ)
all_as [] = []
all_as (w ∷ ws) = sent_as w ∷ all_as ws

-- what an outbox holds
pub record OutboxState : Type 0 where
  pub waiting : List (ℕ × List ℕ)  -- destination and bytes of each datagram, in order
  pub room : ℕ  -- for so many more there are places
  pub failures : ℕ  -- so many were not taken

-- what waits, in order
abbrev pub waiting_in : OutboxState → List (ℕ × List ℕ)
waiting_in outbox = outbox.waiting
