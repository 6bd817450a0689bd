-- Datagrams of a real group in the order in which they were sent, and what of them breaks the law.
use Rattle.std.specs.Prelude.{◌≡◌, ◌≢◌, ◌⊎◌, ◌↔◌, ℕ, ◌<◌, ◌≤◌, List, [], ◌∷◌, ◌++◌}
use Rattle.std.specs.Prelude.{map, take, slice_get, unwrap_or}
use Rattle.std.specs.Prelude.{Contains, Some}
use Rattle.std.specs.BTreeMap.{is_at}
use Rattle.std.specs.Map.{lookup}
use Rattle.std.specs.Ordering.{nat_cmp}
use Rattle.std.specs.List.{AllByRecursion}
use Rattle.swim_wire.specs.declared.datagram.Datagram.{Datagram}
use Rattle.swim_wire.specs.declared.update.Update.{Update}
use Rattle.swim_member.specs.declared.answer.Out.{Out}
use Rattle.swim_group.specs.declared.checker.Breach.{Breach}
use Rattle.swim_group.specs.declared.checker.Breach.TheVariants.{Invented, Passed, WentBack}
use Rattle.swim_group.specs.declared.checker.CheckFault.{CheckFault}
use Rattle.swim_group.specs.declared.checker.CheckFault.TheVariants.{Broken, NoMemory}
use Rattle.swim_group.specs.Numbers.{HasNumber, HasTold}

-- this sender may say this, where `told x n` says that x told the number n of itself before: of
-- another what that one told of itself, and of itself no number below one that it told
pub record MaySay (told : ℕ → ℕ → Type 0) (sender : ℕ) (u : Update) : Type 0 where
  pub other : u.who ≢ sender → told u.who u.number
  pub own : u.who ≡ sender → (n : ℕ) → told sender n → n ≤ u.number

-- its number is above all that x told of itself
abbrev pub IsAbove : (ℕ → ℕ → Type 0) → Update → Type 0
IsAbove told u = (n : ℕ) → told u.who n → n < u.number

-- and how it breaks the law to say this
abbrev pub Breaks : (ℕ → ℕ → Type 0) → ℕ → Breach → Update → Type 0
Breaks told sender Invented u =
    (u.who ≢ sender) × (told u.who u.number → ⊥) × (IsAbove told u → ⊥)
Breaks told sender Passed u = (u.who ≢ sender) × IsAbove told u
Breaks told sender WentBack u =
    (u.who ≡ sender) × ((n : ℕ) × told sender n × (u.number < n))

-- a datagram keeps the law after these
abbrev pub MayFollow : List Out → Datagram → Type 0
MayFollow sent d = AllByRecursion (MaySay (HasTold sent) d.sender) d.updates.items

-- each of these datagrams keeps the law after those before it
abbrev pub KeepTheLaw : List Out → List Out → Type 0
KeepTheLaw sent [] = Unit {0}
KeepTheLaw sent (out ∷ outs) = MayFollow sent out.datagram × KeepTheLaw (sent ++ out ∷ []) outs

-- an update of the datagram breaks the law after these
abbrev pub IsBroken : List Out → Datagram → CheckFault → Type 0
IsBroken sent d (Broken u breach) =
    Contains d.updates.items u × Breaks (HasTold sent) d.sender breach u
IsBroken sent d NoMemory = Unit {0}

-- the numbers that this member told of itself, of what is remembered of each
abbrev pub told_numbers : List (ℕ × List ℕ) → ℕ → List ℕ
told_numbers told x = unwrap_or (lookup (is_at (nat_cmp x)) told) []

-- it is remembered that x told this number of itself
abbrev pub IsRemembered : List (ℕ × List ℕ) → ℕ → ℕ → Type 0
IsRemembered told x n = Contains (told_numbers told x) n

-- what is remembered is what each sender of these told of itself
abbrev pub Remembers : List (ℕ × List ℕ) → List Out → Type 0
Remembers told sent =
    (x n : ℕ)
    → (HasTold sent x n → IsRemembered told x n) × (IsRemembered told x n → HasTold sent x n)

-- these numbers, and what this member tells of itself in these updates
abbrev pub IsAdded : List ℕ → ℕ → List Update → List ℕ → Type 0
IsAdded old who updates new =
    (n : ℕ) → Contains new n ↔ (Contains old n ⊎ HasNumber who n updates)

-- what was remembered, and what this sender tells of itself in these updates
abbrev pub IsNoted : List (ℕ × List ℕ) → ℕ → List Update → List (ℕ × List ℕ) → Type 0
IsNoted old sender updates new = (x n : ℕ)
    → (IsRemembered old x n ⊎ ((x ≡ sender) × HasNumber x n updates) → IsRemembered new x n)
    × (IsRemembered new x n → IsRemembered old x n ⊎ ((x ≡ sender) × HasNumber x n updates))

-- these datagrams as they were sent, to whomever
abbrev pub as_sent : List Datagram → List Out
as_sent datagrams = map (λ (d : Datagram). record { to = 0; datagram = d }) datagrams

-- datagrams without whom they were sent to
abbrev pub datagrams_of : List Out → List Datagram
datagrams_of outs = map (λ (out : Out). out.datagram) outs

-- the datagram in this place breaks the law, and none before it does; or there was no memory for it
pub record IsFirstBroken (datagrams : List Datagram) (k : ℕ) (fault : CheckFault) : Type 0 where
  pub datagram : Datagram
  pub found : slice_get datagrams k ≡ Some datagram
  pub before : KeepTheLaw [] (as_sent (take k datagrams))
  pub broken : IsBroken (as_sent (take k datagrams)) datagram fault
