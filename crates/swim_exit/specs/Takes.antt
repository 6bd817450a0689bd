-- What the keys of a settings file take.
use Rattle.std.specs.Prelude.{ℕ, ◌-◌, ◌^◌, Option, Some, None}
use Rattle.swim_member.specs.declared.settings.TheConstants.{HELPERS_MAX, BLOCK_MAX}
use Rattle.swim_node.specs.declared.opening.TheConstants.{LIMIT_MAX}
use Rattle.swim_exit.specs.declared.takes.Takes.{Takes}
use Rattle.swim_exit.specs.declared.takes.Takes.TheVariants.{Number, Ticks}
use Rattle.swim_settings.specs.declared.key.Key.{Key}
use Rattle.swim_settings.specs.declared.key.Key.TheVariants as key

-- the least and the greatest number
pub record Range : Type 0 where
  pub least : ℕ
  pub most : ℕ

-- the numbers that it names, if it does
abbrev pub told_range : Takes → Option Range
told_range (Number least most) = Some (record { least = least; most = most })
told_range (Ticks least most) = Some (record { least = least; most = most })
told_range _ = None

-- the numbers that a key takes, whatever the other keys are
abbrev pub taken_range : Key → Option Range
taken_range key.Group = Some (record { least = 0; most = 2 ^ 63 - 1 })
taken_range key.TickMs = Some (record { least = 1; most = 60000 })
taken_range key.Lambda = Some (record { least = 1; most = 16 })
taken_range key.Period = Some (record { least = 2; most = 1000 })
taken_range key.Suspect = Some (record { least = 1; most = 100000 })
taken_range key.Forget = Some (record { least = 1; most = 1000000 })
taken_range key.Helpers = Some (record { least = 0; most = HELPERS_MAX })
taken_range key.Limit = Some (record { least = 1; most = LIMIT_MAX })
taken_range key.Block = Some (record { least = 1; most = BLOCK_MAX })
taken_range key.Rules = Some (record { least = 1; most = 2 })
taken_range key.Rejoin = Some (record { least = 0; most = 1000000 })
taken_range key.Introduce = Some (record { least = 0; most = 256 })
taken_range key.RecordEras = Some (record { least = 1; most = 1000 })
taken_range _ = None
