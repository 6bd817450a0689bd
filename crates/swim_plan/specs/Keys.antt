-- The keys of a plan, and the numbers that they take.
use Rattle.std.specs.Prelude.{ℕ, List, [], ◌∷◌, codes}
use Rattle.swim_plan.specs.declared.key.PlanKey.{PlanKey}
use Rattle.swim_plan.specs.declared.key.Range.{Range}
use Rattle.swim_plan.specs.declared.key.PlanKey.TheVariants.{Members, Minutes, TickMs, Lambda}
use Rattle.swim_plan.specs.declared.key.PlanKey.TheVariants.{Period, Direct, Suspect, Forget}
use Rattle.swim_plan.specs.declared.key.PlanKey.TheVariants.{Helpers, Limit, Block, Rules}
use Rattle.swim_plan.specs.declared.key.PlanKey.TheVariants.{Listed, Rejoin, Introduce}
use Rattle.swim_plan.specs.declared.key.PlanKey.TheVariants.{BeginWithin, Loss, Repeats}
use Rattle.swim_plan.specs.declared.key.PlanKey.TheVariants.{Delay, Jitter, Kills, RestartAfter}
use Rattle.swim_plan.specs.declared.key.PlanKey.TheVariants.{Dropped, Filled}
use Rattle.swim_plan.specs.declared.key.PlanKey.TheVariants.{OddClocks, ClockRate}
use Rattle.swim_plan.specs.declared.key.PlanKey.TheVariants.{CutMembers, CutAt, CutFor}
use Rattle.swim_plan.specs.declared.key.PlanKey.TheVariants.{Deaf, Mute}
use Rattle.swim_plan.specs.declared.key.PlanKey.TheVariants.{Pauses, PauseFor, FailingSyncs}
use Rattle.swim_wire.specs.declared.update.TheConstants.{MEMBERS_MAX}
use Rattle.swim_member.specs.declared.settings.TheConstants.{HELPERS_MAX, BLOCK_MAX}
use Rattle.swim_node.specs.declared.opening.TheConstants.{LIMIT_MAX}

-- the key as a plan has it
abbrev pub plan_key : PlanKey → List ℕ
plan_key Members = codes "members"
plan_key Minutes = codes "minutes"
plan_key TickMs = codes "tick_ms"
plan_key Lambda = codes "lambda"
plan_key Period = codes "period"
plan_key Direct = codes "direct"
plan_key Suspect = codes "suspect"
plan_key Forget = codes "forget"
plan_key Helpers = codes "helpers"
plan_key Limit = codes "limit"
plan_key Block = codes "block"
plan_key Rules = codes "rules"
plan_key Listed = codes "listed"
plan_key Rejoin = codes "rejoin"
plan_key Introduce = codes "introduce"
plan_key BeginWithin = codes "begin_within"
plan_key Loss = codes "loss"
plan_key Repeats = codes "repeats"
plan_key Delay = codes "delay"
plan_key Jitter = codes "jitter"
plan_key Kills = codes "kills"
plan_key RestartAfter = codes "restart_after"
plan_key Dropped = codes "dropped"
plan_key Filled = codes "filled"
plan_key OddClocks = codes "odd_clocks"
plan_key ClockRate = codes "clock_rate"
plan_key CutMembers = codes "cut_members"
plan_key CutAt = codes "cut_at"
plan_key CutFor = codes "cut_for"
plan_key Deaf = codes "deaf"
plan_key Mute = codes "mute"
plan_key Pauses = codes "pauses"
plan_key PauseFor = codes "pause_for"
plan_key FailingSyncs = codes "failing_syncs"

-- all keys, in the order in which a refused one is looked for
abbrev pub plan_keys : List PlanKey
plan_keys = Members ∷ Minutes ∷ TickMs ∷ Lambda ∷ Period ∷ Direct ∷ Suspect ∷ Forget ∷ Helpers
    ∷ Limit ∷ Block ∷ Rules ∷ Listed ∷ Rejoin ∷ Introduce ∷ BeginWithin ∷ Loss ∷ Repeats
    ∷ Delay ∷ Jitter ∷ Kills ∷ RestartAfter ∷ Dropped ∷ Filled ∷ OddClocks ∷ ClockRate
    ∷ CutMembers ∷ CutAt ∷ CutFor ∷ Deaf ∷ Mute ∷ Pauses ∷ PauseFor ∷ FailingSyncs ∷ []

-- a default, the least and the greatest
abbrev pub within : ℕ → ℕ → ℕ → Range
within default least most = record { default = default; least = least; most = most }

-- the numbers that the key takes
abbrev pub range_of : PlanKey → Range
range_of Members = within 50 1 MEMBERS_MAX
range_of Minutes = within 10 1 1440
range_of TickMs = within 100 1 60000
range_of Lambda = within 3 1 16
range_of Period = within 10 2 1000
range_of Direct = within 3 1 999
range_of Suspect = within 50 1 100000
range_of Forget = within 6000 1 1000000
range_of Helpers = within 3 0 HELPERS_MAX
range_of Limit = within 64 1 LIMIT_MAX
range_of Block = within 1 1 BLOCK_MAX
range_of Rules = within 1 1 2
range_of Listed = within 3 1 8
range_of Rejoin = within 300 0 1000000
range_of Introduce = within 64 0 256
range_of BeginWithin = within 10 1 1000000
range_of Loss = within 2 0 100
range_of Repeats = within 0 0 100
range_of Delay = within 1 1 1000
range_of Jitter = within 0 0 1000
range_of Kills = within 3 0 100
range_of RestartAfter = within 0 0 1000000
range_of Dropped = within 0 0 100
range_of Filled = within 0 0 100
range_of OddClocks = within 0 0 MEMBERS_MAX
range_of ClockRate = within 100 10 1000
range_of CutMembers = within 0 0 MEMBERS_MAX
range_of CutAt = within 60 0 86400
range_of CutFor = within 60 0 86400
range_of Deaf = within 0 0 MEMBERS_MAX
range_of Mute = within 0 0 MEMBERS_MAX
range_of Pauses = within 0 0 100
range_of PauseFor = within 40 0 1000000
range_of FailingSyncs = within 0 0 100

-- how many keys come before it
abbrev pub rank_of : PlanKey → ℕ
rank_of Members = 0
rank_of Minutes = 1
rank_of TickMs = 2
rank_of Lambda = 3
rank_of Period = 4
rank_of Direct = 5
rank_of Suspect = 6
rank_of Forget = 7
rank_of Helpers = 8
rank_of Limit = 9
rank_of Block = 10
rank_of Rules = 11
rank_of Listed = 12
rank_of Rejoin = 13
rank_of Introduce = 14
rank_of BeginWithin = 15
rank_of Loss = 16
rank_of Repeats = 17
rank_of Delay = 18
rank_of Jitter = 19
rank_of Kills = 20
rank_of RestartAfter = 21
rank_of Dropped = 22
rank_of Filled = 23
rank_of OddClocks = 24
rank_of ClockRate = 25
rank_of CutMembers = 26
rank_of CutAt = 27
rank_of CutFor = 28
rank_of Deaf = 29
rank_of Mute = 30
rank_of Pauses = 31
rank_of PauseFor = 32
rank_of FailingSyncs = 33
