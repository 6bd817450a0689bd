-- Numbers of keys, filled in one after the other.
use Rattle.std.proofs.Common.{◌≡◌, ◌≢◌, ℕ, ◌+◌, ◌<◌, ◌||◌, refl, sym, ◌∙◌, ap, subst, zero-add, cond, Bool, true, false, nat_lt, List, length, slice_index_or, slice_set, Option, Some, None, option_and_then, arith}
use Rattle.std.proofs.lemmas.Bool.{ltb-false}
use Rattle.std.proofs.lemmas.List.{get_or-map, get_or-set_same, get_or-set_other}
use Rattle.std.proofs.Math.ListN.{length-set}
use Rattle.std.proofs.lemmas.List.FromFn.{get_or-range_with_len}
use borrow.Author.Count.{below_more}
use Rattle.toml.specs.Data.{Data, Members as Table, as_integer}
use Rattle.swim_settings.specs.Says.{natural_of}
use Rattle.swim_plan.specs.declared.key.PlanKey.{PlanKey}
use Rattle.swim_plan.specs.declared.key.PlanKey.TheVariants.{Members, Minutes, TickMs, Lambda, Period, Direct, Suspect, Forget, Helpers}
use Rattle.swim_plan.specs.declared.key.PlanKey.TheVariants.{Limit, Block, Rules, Listed, Rejoin, Introduce, BeginWithin, Loss, Repeats, Delay, Jitter}
use Rattle.swim_plan.specs.declared.key.PlanKey.TheVariants.{Kills, RestartAfter, Dropped, Filled, OddClocks, ClockRate, CutMembers, CutAt, CutFor, Deaf, Mute, Pauses, PauseFor, FailingSyncs}
use Rattle.swim_plan.specs.declared.key.Range.{Range}
use Rattle.swim_plan.specs.Keys.{plan_keys, rank_of, range_of}
use Rattle.swim_plan.specs.Plan.{IsInRange, number_at, taken_at, taken_from, taken_of, data_at}

-- the key in this place
abbrev pub key_in : ℕ → PlanKey
key_in n = slice_index_or plan_keys n Members

key_in-rank_of : (key : PlanKey) → key_in (rank_of key) ≡ key
key_in-rank_of Members = refl
key_in-rank_of Minutes = refl
key_in-rank_of TickMs = refl
key_in-rank_of Lambda = refl
key_in-rank_of Period = refl
key_in-rank_of Direct = refl
key_in-rank_of Suspect = refl
key_in-rank_of Forget = refl
key_in-rank_of Helpers = refl
key_in-rank_of Limit = refl
key_in-rank_of Block = refl
key_in-rank_of Rules = refl
key_in-rank_of Listed = refl
key_in-rank_of Rejoin = refl
key_in-rank_of Introduce = refl
key_in-rank_of BeginWithin = refl
key_in-rank_of Loss = refl
key_in-rank_of Repeats = refl
key_in-rank_of Delay = refl
key_in-rank_of Jitter = refl
key_in-rank_of Kills = refl
key_in-rank_of RestartAfter = refl
key_in-rank_of Dropped = refl
key_in-rank_of Filled = refl
key_in-rank_of OddClocks = refl
key_in-rank_of ClockRate = refl
key_in-rank_of CutMembers = refl
key_in-rank_of CutAt = refl
key_in-rank_of CutFor = refl
key_in-rank_of Deaf = refl
key_in-rank_of Mute = refl
key_in-rank_of Pauses = refl
key_in-rank_of PauseFor = refl
key_in-rank_of FailingSyncs = refl

pub rank_of-key_in : (n : ℕ) → n < 34 → rank_of (key_in n) ≡ n
rank_of-key_in n l = sym (get_or-map rank_of plan_keys n Members 0 l) ∙ (get_or-range_with_len 0 34 n 0 l ∙ zero-add n)

-- each key that has one of the first places has a number of which this holds
abbrev pub AreFilled : (PlanKey → ℕ → Type 0) → ℕ → List ℕ → Type 0
AreFilled P n numbers = (key : PlanKey) → rank_of key < n → P key (number_at key numbers)

-- and there is a place for each key
pub record IsFilled (P : PlanKey → ℕ → Type 0) (n : ℕ) (numbers : List ℕ) : Type 0 where
  pub len : length numbers ≡ 34
  pub filled : AreFilled P n numbers

fill-one : (P : PlanKey → ℕ → Type 0) (n : ℕ) (numbers : List ℕ) (v : ℕ) → n < length numbers → P (key_in n) v → AreFilled P n numbers → AreFilled P (n + 1) (slice_set numbers n v)
fill-one P n numbers v l p filled key below = below_more Q n before here (rank_of key) below key refl
  where
    Q : ℕ → Type 0
    Q k = (j : PlanKey) → rank_of j ≡ k → P j (number_at j (slice_set numbers n v))

    before : (k : ℕ) → k < n → Q k
    before k less j e =
        let other : rank_of j ≢ n = λ same. absurd (omega arith) in
        subst (P j) (sym (get_or-set_other numbers n (rank_of j) v 0 other)) (filled j (omega arith))

    here : Q n
    here j e =
        let same : j ≡ key_in n = sym (key_in-rank_of j) ∙ ap key_in e in
        let is : number_at j (slice_set numbers n v) ≡ v = ap (λ k. slice_index_or (slice_set numbers n v) k 0) e ∙ get_or-set_same numbers n v 0 l in
        subst (P j) (sym is) (subst (λ k. P k v) (sym same) p)

pub fill-next : (P : PlanKey → ℕ → Type 0) (n : ℕ) (numbers : List ℕ) (v : ℕ) → n < 34 → P (key_in n) v → IsFilled P n numbers → IsFilled P (n + 1) (slice_set numbers n v)
fill-next P n numbers v l p h = record {
  len = length-set numbers n v ∙ h.len;
  filled = fill-one P n numbers v (let len = h.len in omega arith) p h.filled;
}

-- Ranges

in-range : (a b : Bool) (n m : ℕ) → cond (a || b) None (Some n) ≡ Some m → (a ≡ false) × (b ≡ false) × (n ≡ m)
in-range true b n m e = absurd (cc)
in-range false true n m e = absurd (cc)
in-range false false n m e = (refl, refl, cc)

by-within : (range : Range) (n m : ℕ) → taken_from range n ≡ Some m → IsInRange range m
by-within range n m e =
    let h = in-range (nat_lt n range.least) (nat_lt range.most n) n m e in
    subst (IsInRange range) h.2 (record { low = ltb-false n range.least h.0; high = ltb-false range.most n h.1 })

number-within : (range : Range) (number : Option ℕ) (n : ℕ) → option_and_then (taken_from range) number ≡ Some n → IsInRange range n
number-within range None n e = absurd (cc)
number-within range (Some k) n e = by-within range k n e

of-within : (range : Range) (value : Option Data) (n : ℕ) → taken_of range value ≡ Some n → IsInRange range n
of-within range None n e = by-within range range.default n e
of-within range (Some d) n e = number-within range (option_and_then natural_of (as_integer d)) n e

-- what a key takes is in its range
pub taken-within : (key : PlanKey) (table : Table) (n : ℕ) → taken_at key table ≡ Some n → IsInRange (range_of key) n
taken-within key table n e = of-within (range_of key) (data_at key table) n e
