-- The bound as figures: how long a member that stopped is taken for alive, at the most, by one
-- that knows so many others.
use Rattle.std.specs.Prelude.{◌≡◌, ℕ, ◌+◌, ◌*◌, ◌%◌, ◌<◌, ◌≤◌, true, false, length}
use Rattle.swim_rules.specs.Rows.{row_of}
use Rattle.swim_member.specs.Looks.{is_among}
use Rattle.swim_member.specs.State.{State}
use Rattle.swim_member.specs.Turn.{still_listed}
use Rattle.swim_detect.specs.Finding.{is_alive, is_waited_for, ticks_left, ticks_to_suspect}

-- it is suspected within two turns: the rest of a period, all others but it, and all others
abbrev pub suspected_within : ℕ → ℕ → ℕ
suspected_within period others = 2 * others * period

-- it is confirmed when the suspicion has stood long enough
abbrev pub confirmed_within : ℕ → ℕ → ℕ → ℕ
confirmed_within period suspect others = suspected_within period others + suspect

-- x is Alive, and its turn has come: fewer are left of the turn list than there are others
pub record HadTurn (others x : ℕ) (s : State) : Type 0 where
  pub alive : is_alive (row_of s.rows x) ≡ true
  pub left : length (still_listed s) < others

-- from then on it has no more ticks left than the figures say
abbrev pub KeepsBound : ℕ → ℕ → State → Type 0
KeepsBound others x s =
    HadTurn others x s
    → (ticks_to_suspect others x s ≤ suspected_within s.settings.period others)
    × (ticks_left others x s ≤ confirmed_within s.settings.period s.settings.suspect others)

-- a period begins, x answered as the first of its list, and all others are left of it
pub record WaitsLongest (others x : ℕ) (s : State) : Type 0 where
  pub alive : is_alive (row_of s.rows x) ≡ true
  pub begins : s.time % s.settings.period ≡ 0
  pub answered : is_waited_for x s.probe ≡ false
  pub left : length (still_listed s) + 1 ≡ others
  pub absent : is_among x (still_listed s) ≡ false

-- from then on it has exactly so many
abbrev pub TakesBound : ℕ → ℕ → State → Type 0
TakesBound others x s =
    WaitsLongest others x s
    → (ticks_to_suspect others x s ≡ suspected_within s.settings.period others)
    × (ticks_left others x s ≡ confirmed_within s.settings.period s.settings.suspect others)
