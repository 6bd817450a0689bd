-- Which tales are of one life of a member, and the probe that one of them leaves open.
use Rattle.std.specs.Option.{option_or}
use Rattle.std.specs.Prelude.{ℕ, ◌-◌, ◌==◌, ◌&&◌, nat_le, Bool, length, slice_get}
use Rattle.std.specs.Prelude.{List, [], ◌∷◌, Option, Some, None}
use Rattle.swim_explain.specs.declared.fact.Fact.{Fact}
use Rattle.swim_explain.specs.declared.fact.Fact.TheVariants as fact
use Rattle.swim_explain.specs.declared.fact.Happening.{Happening}
use Rattle.swim_explain.specs.declared.fact.Purpose.TheVariants as purpose
use Rattle.swim_explain.specs.declared.tale.Tale.{Tale}

-- how many ticks had counted then
abbrev pub tick_of : Option Happening → ℕ
tick_of None = 0
tick_of (Some h) = h.tick

-- and where a story ends
abbrev pub last_tick : List Happening → ℕ
last_tick story = tick_of (slice_get story (length story - 1))

-- the ticks of the same member go on. In another life they begin at 0
abbrev pub goes_on : Tale → Tale → Bool
goes_on earlier tale =
    earlier.settings.me == tale.settings.me
    && nat_le (last_tick earlier.story.items) tale.first_tick

-- the sequence of a probe
abbrev pub probe_sequence : Fact → Option ℕ
probe_sequence (fact.Pinged purpose.Probe seq outcome) = Some seq
probe_sequence (fact.Asked helper seq outcome) = Some seq
probe_sequence _ = None

-- that of the last one
abbrev pub last_probe : List Happening → Option ℕ
last_probe [] = None
last_probe (h ∷ story) = option_or (last_probe story) (probe_sequence h.fact)
