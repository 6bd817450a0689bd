-- To whom a member introduces itself, once somebody has answered it.
use Rattle.std.specs.Prelude.{ℕ, ◌+◌, ◌-◌, ◌^◌, ◌%◌, ◌==◌, min, nat_lt, if◌then◌else◌}
use Rattle.std.specs.Prelude.{Bool, false, List, length, Option, Some, None}
use Rattle.rand_chacha.specs.ChaCha.{ChaCha}
use Rattle.swim_wire.specs.declared.update.Update.{Update}
use Rattle.swim_join.specs.declared.introductions.Introductions.{Introductions}
use Rattle.swim_join.specs.Joins.{eligible_in, next_draw, nth_eligible}

-- so many at most, none of which was made yet
abbrev pub introductions_of : ℕ → Introductions
introductions_of most = record { left = most; made = 0; word = 0 }

-- some were made, and some are left
abbrev pub go_on : Introductions → Bool
go_on i = if nat_lt 0 i.made then nat_lt 0 i.left else false

-- the word that draws the first, and the generator then: it gives one for all of them
abbrev pub first_word : Introductions → ChaCha → ℕ × ChaCha
first_word i rng = if i.made == 0 then next_draw rng else (i.word, rng)

-- the member that comes next after so many, of those that the rows show from the drawn one on; none
-- where each had its turn
abbrev pub next_among : ℕ → List Update → (made word : ℕ) → Option ℕ
next_among me rows made word = let count = length (eligible_in me rows) in
    if nat_lt made count then nth_eligible me rows ((word + made) % count) else None

-- after it, one fewer is left; and none where nobody comes next
abbrev pub with_next : Option ℕ → (word : ℕ) → Introductions → Introductions
with_next None word i = record { left = 0; made = i.made; word = word }
with_next (Some next) word i =
    record { left = i.left - 1; made = min (i.made + 1) (2 ^ 32 - 1); word = word }
