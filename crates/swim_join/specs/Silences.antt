-- When it is said that nobody of the list answers.
use Rattle.std.specs.Prelude.{ℕ, ◌+◌, ◌-◌, ◌*◌, ◌^◌, min, nat_lt, Bool, false, if◌then◌else◌}
use Rattle.std.specs.Prelude.{List, length, Option, Some, None}
use Rattle.std.specs.declared.time.Instant.{Instant}
use Rattle.swim_join.specs.declared.silence.Silence.{Silence}
use Rattle.swim_join.specs.declared.intervals.TheConstants.{QUICK_JOINS}
use Rattle.swim_join.specs.declared.silence.TheConstants.{ROUNDS, SAID_SECONDS}
use Rattle.swim_join.specs.Moments.{has_passed}

-- nobody was asked yet, or somebody is known
abbrev pub heard_nobody : Silence
heard_nobody = record { joins = 0; said = None }

-- another list is asked from now on
abbrev pub asked_anew : Silence → Silence
asked_anew s = record s { joins = 0 }

-- two rounds of joins of so many peers are over, beside those that come quickly, and a join of the
-- third was made; it was not said in the last ten minutes; a clock that was not read says no
abbrev pub is_due : Silence → (listed : ℕ) → Option Instant → Bool
is_due s listed None = false
is_due s listed (Some now) =
    if nat_lt (ROUNDS * listed + QUICK_JOINS) s.joins
    then has_passed (Some now) s.said (SAID_SECONDS * 1000000000) else false

-- it was said now, if it is due
abbrev pub with_word : List ℕ → Option Instant → Silence → Silence
with_word peers now s = if is_due s (length peers) now then record s { said = now } else s

-- one of these peers was joined once more, while nobody was known
abbrev pub with_ask : List ℕ → Option Instant → Silence → Silence
with_ask peers now s =
    with_word peers now (record s { joins = min (s.joins + 1) (2 ^ 32 - 1) })
