-- Whom a member joins, as the program's clock goes on: what the joiner of `swim run` asks for.
use Rattle.std.specs.Prelude.{◌≡◌, ◌≢◌, ◌⊎◌, ◌↔◌, ℕ, ◌+◌, ◌-◌, ◌*◌, ◌/◌, ◌^◌, ◌==◌, nat_lt, min}
use Rattle.std.specs.Prelude.{List, [], map, length, Option, Some, None, IsSome, IfSome}
use Rattle.std.specs.Prelude.{Bool, false, if◌then◌else◌}
use Rattle.std.specs.List.{list_any}
use Rattle.std.specs.Time.{FitsClock, instant_nanos}
use Rattle.std.specs.declared.time.Instant.{Instant}
use Rattle.rand_chacha.specs.ChaCha.{of_seed}
use Rattle.rand_core.specs.Pcg32Seed.{pcg32_seed}
use Rattle.swim_member.specs.declared.event.Event.TheVariants.{Join}
use Rattle.swim_node.specs.History.{status_of}
use Rattle.swim_join.specs.Joins.{IsRelisted, JoinerView}
use Rattle.swim_join.specs.Turns.{TellsDue, after_look, turning, due_in, idle_rest}
use Rattle.swim_join.specs.Turns.{joined_drawn, joined_listed}
use Rattle.swim_shell.specs.About.{is_alone}
use Rattle.swim_join.specs.declared.joiner.Due.{Due}
use Rattle.swim_join.specs.declared.joiner.Due.TheVariants.{Drawn, Listed, Look, Nothing}
use Rattle.swim_join.specs.declared.intervals.Moment.{Moment}
use Rattle.swim_start.specs.Starting.{peers_to_join}
use Rattle.swim_state.specs.declared.peers.TheConstants.{PEERS_MAX}
use Rattle.swim_wire.specs.declared.update.Update.{Update}
use Rattle.swim_library.specs.Changes.{AddsAllPages, ReadsInVain}
use Rattle.swim_library.specs.Outbox.{waiting_in}
use Rattle.swim_library.specs.Running.{EntersEvent}
use Rattle.swim_library.specs.Shapes.{number_of_endpoint}
use Rattle.swim_library.specs.declared.refusal.Refusal.{Refusal}
use Rattle.swim_library.specs.declared.refusal.Refusal.TheVariants.{NoEndpoint, TooMany}
use Rattle.swim_library.specs.declared.running.Running.{Running}
use Rattle.swim_library.specs.declared.seeking.Seeking.{Seeking}
use Rattle.swim_library.specs.declared.shapes.SwimEndpoint.{SwimEndpoint}

-- ---- the clock

-- it is the time so many milliseconds after this one, if a clock can hold it
abbrev pub IsTimeAfter : Option Instant → ℕ → Option Instant → Type 0
IsTimeAfter None ms at = at ≡ None
IsTimeAfter (Some began) ms at = (IsSome at ↔ FitsClock (instant_nanos began + ms * 1000000))
    × IfSome at (λ t. instant_nanos t ≡ instant_nanos began + ms * 1000000)

-- the first millisecond at which so many nanoseconds have passed
abbrev pub ms_after : ℕ → ℕ → ℕ
ms_after now rest = min (now + rest / 1000000 + 1) (2 ^ 64 - 1)

-- when the joiner wants its next turn, if the next tick is due then: at once where a drawn member
-- is still to be joined; with that tick, or before it while it introduces the member
abbrev pub next_turn_by : Option ℕ → JoinerView → (now due : ℕ) → ℕ
next_turn_by (Some drawn) j now due = now
next_turn_by None j now due = min due (ms_after now (idle_rest j))

abbrev pub next_turn : JoinerView → (now due : ℕ) → ℕ
next_turn j now due = next_turn_by j.drawn j now due

-- ---- the seeds

-- nobody is reached at port 0
abbrev pub names_nobody : SwimEndpoint → Bool
names_nobody e = e.port == 0

-- why these seeds are refused, if they are
abbrev pub seeds_fault : List SwimEndpoint → Option Refusal
seeds_fault seeds =
    if nat_lt PEERS_MAX (length seeds) then Some TooMany
    else (if list_any names_nobody seeds then Some NoEndpoint else None)

-- the joiner of these peers has done nothing yet, and this word begins what draws others
pub record IsNewJoiner (s : Seeking) (peers : List ℕ) (word : ℕ) (k : JoinerView) : Type 0 where
  pub me : k.me ≡ s.me
  pub rules : k.rules ≡ s.rules
  pub intervals : k.intervals ≡ s.intervals
  pub list : k.peers.list ≡ peers
  pub first : k.peers.next ≡ 0
  pub joined : k.joined ≡ None
  pub draws : k.rng ≡ of_seed (pcg32_seed 32 word)

-- it is new, or it was there and joins these peers from now on
abbrev pub BeginsOn : Option JoinerView → Seeking → List ℕ → ℕ → JoinerView → Type 0
BeginsOn None s peers word k = IsNewJoiner s peers word k
BeginsOn (Some j) s peers word k = IsRelisted peers s.intervals j k

-- these peers are joined from now on
pub record SeeksPeers (peers : List ℕ) (word : ℕ) (old new : Seeking) : Type 0 where
  pub joiner : JoinerView
  pub is : new ≡ record old { joiner = Some joiner }
  pub begins : BeginsOn old.joiner old peers word joiner

-- nothing changed but who looks for others
pub record OnlySeeks (old new : Running) : Type 0 where
  pub node : new.node ≡ old.node
  pub outbox : new.outbox ≡ old.outbox
  pub notes : new.notes ≡ old.notes
  pub told : new.told ≡ old.told
  pub due : new.due ≡ old.due
  pub limit : new.limit ≡ old.limit

-- the seeds that C named, and then the stored peers, each once and without the member itself, are
-- joined from now on
pub record TakesSeeds (seeds : List SwimEndpoint) (random : ℕ) (old new : Running) : Type 0 where
  pub seeks : SeeksPeers
      (peers_to_join old.seeking.me (map number_of_endpoint seeds) old.node.peers)
      random old.seeking new.seeking
  pub same : OnlySeeks old new

-- ---- a turn

-- what a turn goes by: what the program's clock says, whether the member is alone, and how many it
-- holds for failed; its joiner logs nothing
pub record IsMoment (running : Running) (now : ℕ) (at : Moment) : Type 0 where
  pub clock : IsTimeAfter running.seeking.began now at.now
  pub alone : at.is_alone ≡ is_alone (Some (status_of running.node.base running.node.entries))
  pub failed : at.failed ≡ (status_of running.node.base running.node.entries).confirmed
  pub shown : at.is_shown ≡ false

-- the joiner is this one now, and nothing else changed
pub record HasJoiner (old new : Running) (k : JoinerView) : Type 0 where
  pub is : new.seeking ≡ record old.seeking { joiner = Some k }
  pub same : OnlySeeks old new

-- What was due was done: the peer of the list or the drawn member was joined, or all rows were
-- read, and a member was drawn from them, if that was due.
abbrev pub Fulfils : Due → JoinerView → Moment → Running → JoinerView → Running → Type 0
Fulfils (Listed x) j at old k new = EntersEvent old new (Join x) × (k ≡ joined_listed at.now j)
Fulfils (Drawn x) j at old k new = EntersEvent old new (Join x) × (k ≡ joined_drawn at.now j)
Fulfils Look j at old k new = (rows : List Update) × AddsAllPages old new rows
    × TellsDue (after_look j at rows) at rows k
Fulfils Nothing j at old k new = (new ≡ old) × (k ≡ j)

-- the same, and the joiner has it behind it
pub record DoesTask (due : Due) (j : JoinerView) (at : Moment) (old new : Running) : Type 0 where
  pub between : Running
  pub joiner : JoinerView
  pub does : Fulfils due j at old joiner between
  pub ends : HasJoiner between new joiner

-- memory was short for what was due, after some pages of rows if it was a look
pub record LacksForTask (old new : Running) : Type 0 where
  pub vain : ReadsInVain old new
  pub seeking : new.seeking ≡ old.seeking

-- a member was drawn from these rows, if that was due
pub record SeesRows (at : Moment) (rows : List Update) (j : JoinerView) (old new : Seeking)
    : Type 0 where
  pub joiner : JoinerView
  pub told : TellsDue (after_look j at rows) at rows joiner
  pub is : new ≡ record old { joiner = Some joiner }

-- The joiner had a turn, at the time that the program's clock said: what was due then was done, and
-- it was told when the next one is wanted.
pub record TakesTurn (joiner : JoinerView) (old new : Running) (now due next : ℕ) : Type 0 where
  pub empty : waiting_in old.outbox ≡ []
  pub at : Moment
  pub at_is : IsMoment old now at
  pub first : Running
  pub begins : HasJoiner old first (turning joiner at)
  pub does : DoesTask (due_in joiner at) (turning joiner at) at first new
  pub told : next ≡ next_turn does.joiner now due

-- The joiner had a turn, and memory was short for what was due then: that is due at its next turn
-- too.
pub record TurnsInVain (joiner : JoinerView) (old new : Running) (now : ℕ) : Type 0 where
  pub empty : waiting_in old.outbox ≡ []
  pub at : Moment
  pub at_is : IsMoment old now at
  pub first : Running
  pub begins : HasJoiner old first (turning joiner at)
  pub lacks : LacksForTask first new

-- no seeds were named; or what waits is to be taken first, and then the turn is wanted at once; or
-- there was a turn
abbrev pub Seeks : Running → Running → (now due next : ℕ) → Type 0
Seeks old new now due next =
    ((old.seeking.joiner ≡ None) × ((new ≡ old) × (next ≡ due)))
    ⊎ (((waiting_in old.outbox ≢ []) × ((new ≡ old) × (next ≡ now)))
    ⊎ ((j : JoinerView) × ((old.seeking.joiner ≡ Some j) × TakesTurn j old new now due next)))

-- the joiner that is there had its turn in vain
abbrev pub SeeksInVain : Running → Running → (now : ℕ) → Type 0
SeeksInVain old new now =
    (j : JoinerView) × ((old.seeking.joiner ≡ Some j) × TurnsInVain j old new now)

-- nobody has a turn: no seeds were named, or what waits is to be taken first
abbrev pub HasNoTurn : Running → Type 0
HasNoTurn running = (running.seeking.joiner ≡ None) ⊎ (waiting_in running.outbox ≢ [])
