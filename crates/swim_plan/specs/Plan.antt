-- Plans, and what the table of a plan says.
use Rattle.std.specs.Prelude.{◌≡◌, ◌⊎◌, ◌+◌, ◌*◌, ◌/◌, ◌<◌, ◌≤◌, ◌||◌, ℕ, List}
use Rattle.std.specs.Prelude.{slice_index, slice_set}
use Rattle.std.specs.Prelude.{nat_lt, cond, IsSome, Option, Some, None, option_and_then}
use Rattle.toml.specs.Parse.{parse_document}
use Rattle.toml.specs.Data.{Data, Members, get_member, as_integer}
use Rattle.swim_settings.specs.Says.{natural_of, IsOfText}
use Rattle.swim_settings.specs.Unknown.{IsOfUnknown}
use Rattle.swim_plan.specs.declared.key.PlanKey.{PlanKey}
use Rattle.swim_plan.specs.declared.key.PlanKey.TheVariants.{Minutes, TickMs, Kills}
use Rattle.swim_plan.specs.declared.key.PlanKey.TheVariants.{Direct, Period, Pauses}
use Rattle.swim_plan.specs.declared.key.Range.{Range}
use Rattle.swim_plan.specs.declared.refusal.PlanRefusal.{PlanRefusal}
use Rattle.swim_plan.specs.declared.refusal.PlanRefusal.TheVariants as refusals
use Rattle.swim_plan.specs.Keys.{plan_keys, plan_key, range_of, rank_of}

-- a plan is a list of numbers, in the order of the keys. This is the number of the key
abbrev pub number_at : PlanKey → List ℕ → ℕ
number_at key plan = slice_index plan (rank_of key)

-- the number is in the range
pub record IsInRange (range : Range) (n : ℕ) : Type 0 where
  pub low : range.least ≤ n
  pub high : n ≤ range.most

-- each number is in the range of its key
abbrev pub AreInRanges : List ℕ → Type 0
AreInRanges plan = (key : PlanKey) → IsInRange (range_of key) (number_at key plan)

-- each number is the default of its key
abbrev pub AreDefaults : List ℕ → Type 0
AreDefaults plan = (key : PlanKey) → number_at key plan ≡ (range_of key).default

-- how many ticks are simulated
abbrev pub tick_count : List ℕ → ℕ
tick_count plan = number_at Minutes plan * 60000 / number_at TickMs plan

-- when the kill with this number comes: the kills part the time evenly
abbrev pub kill_tick : List ℕ → ℕ → ℕ
kill_tick plan kill = tick_count plan * (kill + 1) / (number_at Kills plan + 1)

-- when the pause with this number comes: the pauses part the time evenly
abbrev pub pause_tick : List ℕ → ℕ → ℕ
pause_tick plan pause = tick_count plan * (pause + 1) / (number_at Pauses plan + 1)

-- the plan with another number at the key
abbrev pub with_number : PlanKey → ℕ → List ℕ → List ℕ
with_number key number plan = slice_set plan (rank_of key) number

-- What a table says

-- what stands at the key
abbrev pub data_at : PlanKey → Members → Option Data
data_at key table = get_member (plan_key key) table

-- the number, if it is in the range
abbrev pub taken_from : Range → ℕ → Option ℕ
taken_from range n = cond (nat_lt n range.least || nat_lt range.most n) None (Some n)

-- the number that stands there, or the default where nothing stands;
-- none where it is not in the range
abbrev pub taken_of : Range → Option Data → Option ℕ
taken_of range None = taken_from range range.default
taken_of range (Some d) =
    option_and_then (taken_from range) (option_and_then natural_of (as_integer d))

-- the number that the table gives the key, if the key takes it
abbrev pub taken_at : PlanKey → Members → Option ℕ
taken_at key table = taken_of (range_of key) (data_at key table)

-- the table says this plan
abbrev pub Says : Members → List ℕ → Type 0
Says table plan = (key : PlanKey) → taken_at key table ≡ Some (number_at key plan)

-- the key is the first that does not take what the table gives it
pub record IsFirstKey (key : PlanKey) (table : Members) : Type 0 where
  pub earlier : (before : PlanKey) → rank_of before < rank_of key → IsSome (taken_at before table)
  pub refused : taken_at key table ≡ None

-- others would be asked about a target only after its period
pub record IsTooLate (key : PlanKey) (table : Members) : Type 0 where
  pub plan : List ℕ
  pub says : Says table plan
  pub is : key ≡ Direct
  pub late : number_at Period plan ≤ number_at Direct plan

-- the text is refused with reason: it is no TOML, its table has a number that its key does not
-- take, or it says a plan, but has a key that no plan has. Or memory ran out
abbrev pub IsPlanReason : List ℕ → PlanRefusal → Type 0
IsPlanReason text (refusals.Key key) =
    (table : Members)
    × (parse_document text ≡ Some table)
    × (IsFirstKey key table ⊎ IsTooLate key table)
IsPlanReason text (refusals.Text refusal) =
    IsOfText text refusal
    ⊎ ((table : Members) × (plan : List ℕ) × (parse_document text ≡ Some table) × Says table plan
    × IsOfUnknown plan_key plan_keys table refusal)
