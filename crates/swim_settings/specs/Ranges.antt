-- The ranges of the settings of `swim run`.
use Rattle.std.specs.Prelude.{◌<◌, ◌≤◌, ◌^◌}
use Rattle.swim_member.specs.Checks.{AreSound}
use Rattle.swim_settings.specs.declared.settings.RunSettings.{RunSettings}

-- each number is in its range
pub record AreInRange (run : RunSettings) : Type 0 where
  pub sound : AreSound run.settings
  pub group_high : run.settings.group < 2 ^ 63
  pub tick_low : 1 ≤ run.tick_ms
  pub tick_high : run.tick_ms ≤ 60000
  pub limit_low : 1 ≤ run.limit
  pub limit_high : run.limit ≤ 65536
  pub rejoin_high : run.rejoin ≤ 1000000
  pub introduce_high : run.introduce ≤ 256
  pub record_eras_low : 1 ≤ run.record_eras
  pub record_eras_high : run.record_eras ≤ 1000
