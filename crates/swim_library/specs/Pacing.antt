-- When a tick is made of those that a clock counts.
use Rattle.std.specs.Prelude.{◌≡◌, ◌⊎◌, ℕ, ◌+◌, ◌-◌, ◌^◌, ◌<◌, ◌≤◌}
use Rattle.std.specs.Prelude.{List, Some, min, nat_le, unwrap_or, if◌then◌else◌}
use Rattle.swim_library.specs.Running.{EntersTick}
use Rattle.swim_library.specs.Seeking.{Seeks, SeeksInVain}
use Rattle.swim_library.specs.declared.running.Running.{Running}
use Rattle.swim_library.specs.declared.pacing.TheConstants.{TICK_MS}

-- a tick after this time, of a clock of 64 bits
abbrev pub a_tick_after : ℕ → ℕ
a_tick_after time = min (time + TICK_MS) (2 ^ 64 - 1)

-- when the next tick is due at a time; the first one a tick after the first time that is told
abbrev pub tick_due : Running → ℕ → ℕ
tick_due running now = unwrap_or running.due (a_tick_after now)

-- When the tick is due that follows one that was due then. One that is late by more than a tick
-- puts the others off: so none is made up for.
abbrev pub next_tick_due : ℕ → ℕ → ℕ
next_tick_due due now = if nat_le now (a_tick_after due) then a_tick_after due else a_tick_after now

-- nothing changed but when the next tick is due
pub record OnlyAwaits (old new : Running) (next : ℕ) : Type 0 where
  pub due : new.due ≡ Some next
  pub node : new.node ≡ old.node
  pub outbox : new.outbox ≡ old.outbox
  pub notes : new.notes ≡ old.notes
  pub told : new.told ≡ old.told
  pub seeking : new.seeking ≡ old.seeking
  pub limit : new.limit ≡ old.limit

-- no tick was due yet, and when it is was told
pub record AwaitsTick (old new : Running) (now next : ℕ) : Type 0 where
  pub early : now < tick_due old now
  pub told : next ≡ tick_due old now
  pub same : OnlyAwaits old new next

-- one tick was due and was entered, however late it was, and when the next one is was told
pub record MakesTick (old new : Running) (now next : ℕ) : Type 0 where
  pub late : tick_due old now ≤ now
  pub numbers : List ℕ
  pub between : Running
  pub enters : EntersTick old between numbers
  pub told : next ≡ next_tick_due (tick_due old now) now
  pub same : OnlyAwaits between new next

-- the one or the other
abbrev pub Advances : Running → Running → ℕ → ℕ → Type 0
Advances old new now next = AwaitsTick old new now next ⊎ MakesTick old new now next

-- the tick that was due was made, if one was, and then the joiner had its turn, if there is one
pub record FollowsClock (old new : Running) (now next : ℕ) : Type 0 where
  pub due : ℕ
  pub between : Running
  pub ticks : Advances old between now due
  pub seeks : Seeks between new now due next

-- the same, but that memory was short for what the joiner was to do
pub record SeeksInVainAfter (old new : Running) (now : ℕ) : Type 0 where
  pub due : ℕ
  pub between : Running
  pub ticks : Advances old between now due
  pub seeks : SeeksInVain between new now

-- memory was short for the tick that was due, and nothing changed; or after it
abbrev pub FollowsInVain : Running → Running → ℕ → Type 0
FollowsInVain old new now =
    ((tick_due old now ≤ now) × (new ≡ old)) ⊎ SeeksInVainAfter old new now
