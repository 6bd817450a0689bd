-- The network.
use Rattle.std.specs.Prelude.{◌⊎◌, ◌+◌, ◌*◌, ◌%◌, ◌<◌, ◌≤◌, ℕ, List, Bool, nat_lt, cond}
use Rattle.std.specs.Prelude.{◌||◌}
use Rattle.swim_plan.specs.declared.key.PlanKey.TheVariants.{Loss, Repeats, Delay, Jitter}
use Rattle.swim_plan.specs.declared.key.PlanKey.TheVariants.{CutMembers, CutAt, CutFor}
use Rattle.swim_plan.specs.declared.key.PlanKey.TheVariants.{Deaf, Mute}
use Rattle.swim_simulate.specs.declared.network.Draw.{Draw}
use Rattle.swim_simulate.specs.declared.network.Fate.{Fate}
use Rattle.swim_simulate.specs.declared.place.TheConstants.{FIRST, PORT}
use Rattle.swim_simulate.specs.declared.network.Fate.TheVariants.{Lost, Comes, ComesTwice}
use Rattle.swim_plan.specs.Plan.{number_at}

-- the endpoint of the member with this place: 10.0.0.1:7000, and the addresses after it
abbrev pub endpoint_of : ℕ → ℕ
endpoint_of place = (FIRST + place) * 65536 + PORT

-- one of the two is among the first so many, and the other is not
abbrev pub IsApart : ℕ → ℕ → ℕ → Type 0
IsApart count m n = ((m < count) × (count ≤ n)) ⊎ ((n < count) × (count ≤ m))

-- nothing comes from this member to that one: they are in two parts,
-- or that one is among those that hear nobody, or this one among those that nobody hears
abbrev pub IsNoWay : List ℕ → ℕ → ℕ → Type 0
IsNoWay plan from to =
    IsApart (number_at CutMembers plan) from to
    ⊎ ((to < number_at Deaf plan) ⊎ (from < number_at Mute plan))

-- in this second nothing comes from this member to that one, by the cut of the plan
pub record IsCutOff (plan : List ℕ) (second from to : ℕ) : Type 0 where
  pub begun : number_at CutAt plan ≤ second
  pub lasts : second < number_at CutAt plan + number_at CutFor plan
  pub no_way : IsNoWay plan from to

-- how many ticks a datagram takes
abbrev pub delay_of : List ℕ → ℕ → ℕ
delay_of plan word = number_at Delay plan + word % (number_at Jitter plan + 1)

-- what becomes of a datagram that is not lost
abbrev pub way_of : List ℕ → Draw → Fate
way_of plan draw =
    cond (nat_lt (draw.repeat % 100) (number_at Repeats plan))
    (ComesTwice (delay_of plan draw.delay) (delay_of plan draw.second))
    (Comes (delay_of plan draw.delay))

-- what becomes of a datagram. One that is cut off never comes
abbrev pub fate_of : List ℕ → Bool → Draw → Fate
fate_of plan cut draw =
    cond (cut || nat_lt (draw.loss % 100) (number_at Loss plan)) Lost (way_of plan draw)
