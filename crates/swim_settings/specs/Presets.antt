-- The presets of a settings file.
use Rattle.std.specs.Prelude.{◌≡◌, ℕ, List, codes, Option, Some, None}
use Rattle.swim_member.specs.declared.settings.Settings.{Settings}
use Rattle.swim_settings.specs.declared.preset.Preset.{Preset}
use Rattle.swim_settings.specs.declared.preset.Preset.TheVariants.{Local, Lan, Wan}
use Rattle.swim_settings.specs.declared.preset.DefaultTimes.{DefaultTimes}

-- the preset as a file has it
abbrev pub preset_text : Preset → List ℕ
preset_text Local = codes "local"
preset_text Lan = codes "lan"
preset_text Wan = codes "wan"

-- the default times, in the order of their keys
abbrev pub default_times : ℕ → ℕ → ℕ → ℕ → ℕ → ℕ → ℕ → ℕ → DefaultTimes
default_times tick_ms lambda period direct suspect forget helpers rejoin = record {
  tick_ms = tick_ms;
  lambda = lambda;
  period = period;
  direct = direct;
  suspect = suspect;
  forget = forget;
  helpers = helpers;
  rejoin = rejoin;
}

-- the times that a member with these settings has of them
abbrev pub HasTimes : Settings → DefaultTimes → Type 0
HasTimes s times = (times.lambda ≡ s.lambda) × (times.period ≡ s.period)
    × (times.direct ≡ s.direct) × (times.suspect ≡ s.suspect) × (times.forget ≡ s.forget)
    × (times.helpers ≡ s.helpers)

-- what stands in the place of the keys that a file has not, by its preset: milliseconds of a tick,
-- lambda, period, direct, suspect, forget, helpers, rejoin
abbrev pub times_of : Option Preset → DefaultTimes
times_of None = default_times 100 3 10 3 50 6000 3 300
times_of (Some Local) = default_times 20 3 10 3 50 3000 3 100
times_of (Some Lan) = default_times 50 3 10 2 80 12000 5 600
times_of (Some Wan) = default_times 200 4 15 5 150 6000 3 50
