-- The buckets of a buffer: the places of its updates, bucket
-- after bucket, in each by who began to wait earlier.
use Rattle.std.specs.Prelude.{ℕ, ◌+◌, ◌≤◌, ◌==◌, ◌&&◌, false, Bool, List, [], ◌∷◌, ◌++◌, cond}
use Rattle.std.specs.Prelude.{slice_index_or, slice_set, zero, suc}
use Rattle.swim_wire.specs.Filler.{filler}
use Rattle.swim_gossip.specs.declared.buffer.Waiting.{Waiting}
use Rattle.swim_gossip.specs.declared.buffer.TheConstants.{BUCKETS_MAX}
use Rattle.swim_gossip.specs.declared.slots.BufferSlot.{BufferSlot}
use Rattle.swim_gossip.specs.Queue.{AreApart, AreWithin, NeverRise}

-- what stands at a place; a gap where there is no slot
abbrev pub at : List BufferSlot → ℕ → BufferSlot
at slots x = slice_index_or slots x (record { update = filler; count = 0; waits = false })

-- an update about x waits in the slot
abbrev pub is_slot_of : ℕ → BufferSlot → Bool
is_slot_of x s = s.waits && (s.update.who == x)

-- what waits in a slot that is no gap
abbrev pub wait_of : BufferSlot → Waiting
wait_of s = record { update = s.update; count = s.count }

-- the updates in slots that are no gaps
abbrev pub queue_in : List BufferSlot → List Waiting
queue_in [] = []
queue_in (s ∷ slots) = cond s.waits (wait_of s ∷ queue_in slots) (queue_in slots)

-- of n places from i on those that are no gaps
abbrev pub lives : List BufferSlot → ℕ → ℕ → List ℕ
lives slots i zero = []
lives slots i (suc n) = cond (at slots i).waits (i ∷ lives slots (suc i) n) (lives slots (suc i) n)

-- the places of those that were sent so many times, i being the first place
abbrev pub spots : ℕ → ℕ → List BufferSlot → List ℕ
spots c i [] = []
spots c i (s ∷ slots) =
    cond (s.waits && (s.count == c)) (i ∷ spots c (suc i) slots) (spots c (suc i) slots)

-- the places of those that were sent fewer than n times, bucket after bucket
abbrev pub runs : ℕ → List BufferSlot → List ℕ
runs zero slots = []
runs (suc n) slots = runs n slots ++ spots n 0 slots

-- what holds of a buffer at all times
pub record AreKept (queue : List Waiting) (most : ℕ) : Type 0 where
  pub apart : AreApart queue
  pub within : AreWithin most queue
  pub falling : NeverRise queue
  pub last : most ≤ BUCKETS_MAX

-- one more send
abbrev pub bump : BufferSlot → BufferSlot
bump s = record { update = s.update; count = s.count + 1; waits = s.waits }

-- one more send of what stands at these places
abbrev pub raised_at : List ℕ → List BufferSlot → List BufferSlot
raised_at [] slots = slots
raised_at (x ∷ xs) slots = raised_at xs (slice_set slots x (bump (at slots x)))
