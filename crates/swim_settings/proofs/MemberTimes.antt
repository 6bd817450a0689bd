-- The times of a member, taken one after the other: all keys before the next one have what they take.
use Rattle.std.proofs.Common.{ℕ, ◌-◌}
use Rattle.toml.specs.Data.{Members}
use Rattle.swim_member.specs.declared.settings.TheConstants.{HELPERS_MAX}
use Rattle.swim_settings.specs.declared.key.Key.TheVariants.{Lambda, Period, Direct, Suspect, Forget, Helpers, Limit}
use Rattle.swim_settings.specs.declared.preset.DefaultTimes.{DefaultTimes}
use Rattle.swim_settings.specs.Keys.{keys_before}
use Rattle.swim_settings.specs.Says.{AreTakenBefore, AreTimes, IsNumber, IsWithin}
use Rattle.swim_settings.proofs.Taken.{AreTaken-push}

module _ (table : Members) (times : DefaultTimes) (are : AreTimes table times) where
  pub to_period : AreTakenBefore Lambda table → (n : ℕ) → IsWithin Lambda times.lambda 1 16 table n → AreTakenBefore Period table
  to_period taken n within = AreTaken-push table (keys_before Lambda) Lambda taken (times, n, are, within)

  pub to_direct : AreTakenBefore Period table → (n : ℕ) → IsWithin Period times.period 2 1000 table n → AreTakenBefore Direct table
  to_direct taken n within = AreTaken-push table (keys_before Period) Period taken (times, n, are, within)

  pub to_suspect : AreTakenBefore Direct table → (period n : ℕ) → IsNumber Period times.period table period → IsWithin Direct times.direct 1 (period - 1) table n → AreTakenBefore Suspect table
  to_suspect taken period n at within = AreTaken-push table (keys_before Direct) Direct taken (times, period, n, are, at, within)

  pub to_forget : AreTakenBefore Suspect table → (n : ℕ) → IsWithin Suspect times.suspect 1 100000 table n → AreTakenBefore Forget table
  to_forget taken n within = AreTaken-push table (keys_before Suspect) Suspect taken (times, n, are, within)

  pub to_helpers : AreTakenBefore Forget table → (n : ℕ) → IsWithin Forget times.forget 1 1000000 table n → AreTakenBefore Helpers table
  to_helpers taken n within = AreTaken-push table (keys_before Forget) Forget taken (times, n, are, within)

  pub to_limit : AreTakenBefore Helpers table → (n : ℕ) → IsWithin Helpers times.helpers 0 HELPERS_MAX table n → AreTakenBefore Limit table
  to_limit taken n within = AreTaken-push table (keys_before Helpers) Helpers taken (times, n, are, within)
