-- What the text of a file that is shown has at each key.
use Rattle.std.specs.Prelude.{◌≡◌, ℕ, pos, List, codes, string_bytes, Option, Some, None}
use Rattle.std.specs.Prelude.{option_map, if◌then◌else◌}
use Rattle.toml.specs.Data.{Data, Items, string, integer, array}
use Rattle.swim_words.specs.Words.{endpoint_text}
use Rattle.swim_settings.specs.declared.key.Key.{Key}
use Rattle.swim_settings.specs.declared.key.Key.TheVariants as key
use Rattle.swim_settings.specs.declared.settings.RunSettings.{RunSettings}
use Rattle.swim_settings.specs.Controls.{control_text}
use Rattle.swim_settings.specs.Levels.{level_text}
use Rattle.swim_settings.specs.Presets.{preset_text}
use Rattle.swim_settings.specs.Says.{AreTexts}

-- the number at a key that takes one
abbrev pub shown_number : Key → RunSettings → Option ℕ
shown_number key.Group run = Some run.settings.group
shown_number key.TickMs run = Some run.tick_ms
shown_number key.Lambda run = Some run.settings.lambda
shown_number key.Period run = Some run.settings.period
shown_number key.Direct run = Some run.settings.direct
shown_number key.Suspect run = Some run.settings.suspect
shown_number key.Forget run = Some run.settings.forget
shown_number key.Helpers run = Some run.settings.helpers
shown_number key.Limit run = Some run.limit
shown_number key.Block run = Some run.settings.block
shown_number key.Rules run = Some run.settings.rules
shown_number key.Rejoin run = Some run.rejoin
shown_number key.Introduce run = Some run.introduce
shown_number key.RecordEras run = Some run.record_eras
shown_number _ run = None

-- the text at a key that takes one, but for an endpoint
abbrev pub shown_text : Key → RunSettings → Option (List ℕ)
shown_text key.File run = Some (string_bytes run.file)
shown_text key.Preset run = option_map preset_text run.preset
shown_text key.Expelled run = Some (if run.ends_expelled then codes "end" else codes "stay")
shown_text key.Record run = option_map string_bytes run.record_folder
shown_text key.Log run = option_map level_text run.log
shown_text _ run = None

-- what stands at the key says the setting. The generator's key does not stand there
abbrev pub ShowsSetting : Key → RunSettings → Option Data → Type 0
ShowsSetting key.Me run value = value ≡ Some (string (endpoint_text run.settings.me))
ShowsSetting key.Control run value = value ≡ Some (string (control_text run.control))
ShowsSetting key.Join run value =
    (items : Items) × (value ≡ Some (array items)) × AreTexts items run.join.items
ShowsSetting key.RandomKey run value = value ≡ None
ShowsSetting key.File run value = value ≡ option_map string (shown_text key.File run)
ShowsSetting key.Preset run value = value ≡ option_map string (shown_text key.Preset run)
ShowsSetting key.Expelled run value = value ≡ option_map string (shown_text key.Expelled run)
ShowsSetting key.Record run value = value ≡ option_map string (shown_text key.Record run)
ShowsSetting key.Log run value = value ≡ option_map string (shown_text key.Log run)
ShowsSetting key run value = value ≡ option_map (λ n. integer (pos n)) (shown_number key run)
