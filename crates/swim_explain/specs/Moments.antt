-- When an era's ticks were, in milliseconds since the beginning of 1970.
use Rattle.std.specs.Prelude.{ℕ, ◌+◌, ◌-◌, ◌*◌, nat_lt, min, if◌then◌else◌}
use Rattle.swim_record.specs.declared.time.EraTime.{EraTime}

-- when so many ticks had counted, if each came when it was due
abbrev pub due_at : EraTime → ℕ → ℕ
due_at t ticks = t.begun + ticks * t.tick

-- the same, but no later than the end of the era. An end before its
-- beginning says nothing: the clock was set back
abbrev pub moment : EraTime → ℕ → ℕ
moment t ticks = if nat_lt t.begun t.ended then min (due_at t ticks) t.ended else due_at t ticks

-- what the era took beyond its ticks
abbrev pub lateness : EraTime → ℕ → ℕ
lateness t ticks = t.ended - t.begun - ticks * t.tick
