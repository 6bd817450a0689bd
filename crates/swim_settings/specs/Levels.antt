-- The levels of a settings file.
use Rattle.std.specs.Prelude.{ℕ, List, codes}
use Rattle.swim_settings.specs.declared.level.Level.{Level}
use Rattle.swim_settings.specs.declared.level.Level.TheVariants.{Off, Error, Warn, Info, Debug}
use Rattle.swim_settings.specs.declared.level.Level.TheVariants.{Trace}

-- the level as a file has it
abbrev pub level_text : Level → List ℕ
level_text Off = codes "off"
level_text Error = codes "error"
level_text Warn = codes "warn"
level_text Info = codes "info"
level_text Debug = codes "debug"
level_text Trace = codes "trace"
