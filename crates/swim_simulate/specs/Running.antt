-- What a run hands to its nodes.
use Rattle.std.specs.Prelude.{◌≡◌, ◌+◌, ◌-◌, ◌/◌, ◌^◌, ℕ, zero, suc, min, nat_le, slice_get}
use Rattle.std.specs.Prelude.{Bool, true, false, not, ◌&&◌, cond, Option, Some, None}
use Rattle.std.specs.Prelude.{List, [], ◌∷◌, ◌++◌}
use Rattle.swim_group.specs.RealNodes.{RealNodes}
use Rattle.swim_simulate.specs.declared.handed.Clock.{Clock}
use Rattle.swim_simulate.specs.declared.handed.Handed.{Handed}
use Rattle.swim_simulate.specs.declared.handed.Handed.TheVariants.{Tick, Datagram}
use Rattle.swim_simulate.specs.declared.flight.Flight.{Flight}
use Rattle.swim_plan.specs.declared.key.PlanKey.TheVariants.{Members, OddClocks, ClockRate}
use Rattle.swim_simulate.specs.declared.network.Fate.{Fate}
use Rattle.swim_simulate.specs.declared.network.Fate.TheVariants.{Lost, Comes, ComesTwice}
use Rattle.swim_simulate.specs.declared.place.MemberPlace.{MemberPlace}
use Rattle.swim_simulate.specs.Laws.{LawView}
use Rattle.swim_plan.specs.Plan.{number_at}

-- the nodes of a run and the law over them, the tick of the group, which clocks went on in which
-- tick, and what came to which node in which tick
pub record WatchedView : Type 0 where
  pub nodes : RealNodes
  pub law : LawView
  pub tick : ℕ
  pub clocks : List Clock
  pub handed : List Handed

-- no clock goes on, and no tick and no datagram comes to a node
pub record HandsNothing (old new : WatchedView) : Type 0 where
  pub tick : new.tick ≡ old.tick
  pub clocks : new.clocks ≡ old.clocks
  pub handed : new.handed ≡ old.handed

-- Clocks

-- the clocks of so many members go on in this tick, one after the other
abbrev pub round : ℕ → ℕ → List Clock
round tick zero = []
round tick (suc members) = round tick members ++ record { tick = tick; who = members } ∷ []

-- and that in each of so many ticks
abbrev pub rounds : ℕ → ℕ → List Clock
rounds members zero = []
rounds members (suc ticks) = rounds members ticks ++ round ticks members

-- so many ticks of its own come to this member in this tick of the group
abbrev pub ticks_to : ℕ → ℕ → ℕ → List Handed
ticks_to tick who zero = []
ticks_to tick who (suc count) = ticks_to tick who count ++ Tick tick who ∷ []

-- how many hundredths of a tick the clock of this member goes on in a tick
abbrev pub rate_of : List ℕ → ℕ → ℕ
rate_of plan who =
    cond (nat_le (number_at Members plan - number_at OddClocks plan) who)
    (number_at ClockRate plan) 100

-- it runs, and is not paused
abbrev pub is_awake : ℕ → MemberPlace → Bool
is_awake now place = place.is_up && nat_le place.sleeps_until now

-- how many ticks the clock of a member makes now
abbrev pub beats_of : List ℕ → ℕ → ℕ → Option MemberPlace → ℕ
beats_of plan now who None = 0
beats_of plan now who (Some place) =
    cond (is_awake now place) ((place.clock + rate_of plan who) / 100) 0

-- Datagrams

-- so many ticks later
abbrev pub later : ℕ → ℕ → ℕ
later now delay = min (now + delay) (2 ^ 64 - 1)

-- the flight of a datagram that is sent now to this member, by its fate
abbrev pub flight_by : Fate → ℕ → ℕ → Flight
flight_by Lost now to =
    record { to = to; due = later now 0; again = None; is_lost = true }
flight_by (Comes first) now to =
    record { to = to; due = later now first; again = None; is_lost = false }
flight_by (ComesTwice first second) now to =
    record { to = to; due = later now first; again = Some second; is_lost = false }

-- a member that there is hears what comes to it now
abbrev pub hears : ℕ → Option MemberPlace → Bool
hears now None = false
hears now (Some place) = is_awake now place

-- the datagram of this flight comes now: it is due, it is not lost, and whom it goes to hears it
abbrev pub comes : ℕ → List MemberPlace → Flight → Bool
comes now places flight =
    nat_le flight.due now && not flight.is_lost && hears now (slice_get places flight.to)

-- the one that is kept in this place comes, if its flight says so
abbrev pub arrival_by : ℕ → ℕ → List MemberPlace → Flight → List Handed
arrival_by now index places flight =
    cond (comes now places flight) (Datagram now flight.to index ∷ []) []

-- and none, where none is kept
abbrev pub arrival_at : ℕ → ℕ → List MemberPlace → Option Flight → List Handed
arrival_at now index places None = []
arrival_at now index places (Some flight) = arrival_by now index places flight
