-- Where words and the settings of a file say different things.
use Rattle.std.specs.Prelude.{◌≡◌, ◌≢◌, Bool, true, false}
use Rattle.swim_settings.specs.declared.key.Key.{Key}
use Rattle.swim_settings.specs.declared.key.Key.TheVariants as key
use Rattle.swim_settings.specs.declared.settings.RunSettings.{RunSettings}
use Rattle.swim_settings.specs.Controls.{is_same_control}
use Rattle.swim_up.specs.declared.clash.Given.{Given}

-- both say the same at each key that the words name, and join the same if that is asked for
pub record AgreeAtAll (told wanted : RunSettings) (joins_same : Bool) (given : Given) : Type 0 where
  pub group : given.group ≡ true → told.settings.group ≡ wanted.settings.group
  pub me : told.settings.me ≡ wanted.settings.me
  pub control : given.control ≡ true → is_same_control told.control wanted.control ≡ true
  pub preset : given.preset ≡ true → told.preset ≡ wanted.preset
  pub join : given.join ≡ true → joins_same ≡ true

-- the words name the key, and the file has something else there
abbrev pub ClashAt : (told wanted : RunSettings) → (joins_same : Bool) → Given → Key → Type 0
ClashAt told wanted joins_same given key.Group =
    (given.group ≡ true) × (told.settings.group ≢ wanted.settings.group)
ClashAt told wanted joins_same given key.Me = told.settings.me ≢ wanted.settings.me
ClashAt told wanted joins_same given key.Control =
    (given.control ≡ true) × (is_same_control told.control wanted.control ≡ false)
ClashAt told wanted joins_same given key.Preset =
    (given.preset ≡ true) × (told.preset ≢ wanted.preset)
ClashAt told wanted joins_same given key.Join = (given.join ≡ true) × (joins_same ≡ false)
ClashAt told wanted joins_same given _ = ⊥
