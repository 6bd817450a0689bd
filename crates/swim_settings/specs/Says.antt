-- What the table of a settings file says.
use Rattle.std.specs.Prelude.{◌≡◌, ◌≢◌, ◌⊎◌, ◌≤◌, ◌-◌, ℕ, ℤ, pos, negsuc, List, [], ◌∷◌}
use Rattle.std.specs.Prelude.{length, All}
use Rattle.std.specs.Prelude.{IsUtf8, Option, Some, None, option_and_then, option_map, Ok, Bool}
use Rattle.std.specs.Prelude.{true, false, codes, is_some, string_bytes}
use Rattle.std.specs.Fmt.{decimal}
use Rattle.std.specs.List.{AllByRecursion}
use Rattle.hex.specs.Hex.{decode_of}
use Rattle.toml.specs.Parse.{parse_document}
use Rattle.toml.specs.Data.{Data, Items, no_items, item, Members, get_member, as_str, as_integer}
use Rattle.toml.specs.Data.{as_array}
use Rattle.swim_wire.specs.Numbers.{IsEndpoint}
use Rattle.swim_words.specs.Words.{endpoint_text, No, split_by}
use Rattle.swim_words.specs.Hosts.{SaysHost}
use Rattle.swim_settings.specs.declared.key.Key.{Key}
use Rattle.swim_settings.specs.declared.key.Key.TheVariants.{File, Group, Me, Control, TickMs}
use Rattle.swim_settings.specs.declared.key.Key.TheVariants as key
use Rattle.swim_settings.specs.declared.key.Key.TheVariants.{Lambda, Period, Direct, Suspect}
use Rattle.swim_settings.specs.declared.key.Key.TheVariants.{Forget, Helpers, Limit, Block, Rules}
use Rattle.swim_settings.specs.declared.key.Key.TheVariants.{RandomKey, Join, Rejoin, Introduce}
use Rattle.swim_settings.specs.declared.key.Key.TheVariants.{Expelled, Record, RecordEras}
use Rattle.swim_member.specs.declared.settings.TheConstants.{HELPERS_MAX, BLOCK_MAX}
use Rattle.swim_member.specs.declared.settings.Settings.{Settings}
use Rattle.swim_settings.specs.declared.control.ControlPlace.{ControlPlace}
use Rattle.swim_settings.specs.declared.level.Level.{Level}
use Rattle.swim_settings.specs.declared.refusal.SettingsRefusal.{SettingsRefusal}
use Rattle.swim_settings.specs.declared.refusal.SettingsRefusal.TheVariants as refusals
use Rattle.swim_settings.specs.declared.settings.RunSettings.{RunSettings}
use Rattle.swim_settings.specs.declared.settings.TheConstants.{JOIN_MAX}
use Rattle.swim_settings.specs.declared.place.Place.{Place}
use Rattle.swim_settings.specs.declared.place.Place.TheVariants as place
use Rattle.swim_settings.specs.declared.preset.Preset.{Preset}
use Rattle.swim_settings.specs.declared.preset.DefaultTimes.{DefaultTimes}
use Rattle.swim_settings.specs.Controls.{control_text, IsControl}
use Rattle.swim_settings.specs.Keys.{key_text, keys, keys_before}
use Rattle.swim_settings.specs.Levels.{level_text}
use Rattle.swim_settings.specs.Presets.{preset_text, times_of}
use Rattle.swim_settings.specs.Unknown.{IsFirstUnknown}

-- what stands at the key
abbrev pub value_at : Key → Members → Option Data
value_at key table = get_member (key_text key) table

-- the text there
abbrev pub text_at : Key → Members → Option (List ℕ)
text_at key table = option_and_then as_str (value_at key table)

-- a number that isn't below 0
abbrev pub natural_of : ℤ → Option ℕ
natural_of (pos n) = Some n
natural_of (negsuc n) = None

-- the number there, if it isn't below 0
abbrev pub number_at : Key → Members → Option ℕ
number_at key table = option_and_then natural_of (option_and_then as_integer (value_at key table))

-- the number there, or the default where the table hasn't the key
abbrev pub IsNumber : Key → ℕ → Members → ℕ → Type 0
IsNumber key default table n =
    (number_at key table ≡ Some n) ⊎ ((value_at key table ≡ None) × (n ≡ default))

-- the 32 bytes that the hex digits there spell; nothing where the table hasn't the key
abbrev pub AreBytes : Key → Members → Option (List ℕ) → Type 0
AreBytes key table (Some bytes) =
    (text : List ℕ) × (text_at key table ≡ Some text) × (decode_of text ≡ Ok bytes)
    × (length bytes ≡ 32)
AreBytes key table None = value_at key table ≡ None

-- the text of an endpoint, or of a port of a host
abbrev pub place_text : Place → List ℕ
place_text (place.Member e) = endpoint_text e
place_text (place.Host name port) = split_by 58 name.bytes (decimal port)

-- an endpoint, or a port of a host that has a name
abbrev pub IsPlace : Place → Type 0
IsPlace (place.Member e) = IsEndpoint e
IsPlace (place.Host name port) = SaysHost (split_by 58 name.bytes (decimal port)) name.bytes port

-- the items are the texts of these places, in this order
abbrev pub AreTexts : Items → List Place → Type 0
AreTexts no_items [] = Unit
AreTexts (item d ds) (p ∷ ps) = (as_str d ≡ Some (place_text p)) × AreTexts ds ps
AreTexts _ _ = ⊥

-- the places there, so many at the most; none where the table hasn't the key
abbrev pub ArePlaces : (most : ℕ) → Key → Members → List Place → Type 0
ArePlaces most key table ps =
    ((items : Items)
    × (option_and_then as_array (value_at key table) ≡ Some items)
    × AreTexts items ps × All IsPlace ps × (length ps ≤ most))
    ⊎ ((value_at key table ≡ None) × (ps ≡ []))

-- which of two texts is there, the other one or the usual one, which is also meant where the table
-- hasn't the key
abbrev pub IsChoice : Key → (usual other : List ℕ) → Members → (is_other : Bool) → Type 0
IsChoice key usual other table true = text_at key table ≡ Some other
IsChoice key usual other table false =
    (text_at key table ≡ Some usual) ⊎ (value_at key table ≡ None)

-- whether a member ends that is expelled; the usual one stays
abbrev pub EndsExpelled : Members → Bool → Type 0
EndsExpelled = IsChoice Expelled (codes "stay") (codes "end")

-- the folder there, which has a name; none where the table hasn't the key
abbrev pub IsFolder : Key → Members → Option (List ℕ) → Type 0
IsFolder key table (Some folder) = (text_at key table ≡ Some folder) × (folder ≢ [])
IsFolder key table None = value_at key table ≡ None

-- the value whose word is there; none where the table hasn't the key
abbrev pub IsWordAt : {W : Type 0} → (W → List ℕ) → Key → Members → Option W → Type 0
IsWordAt text_of key table (Some word) = text_at key table ≡ Some (text_of word)
IsWordAt text_of key table None = value_at key table ≡ None

-- the preset there
abbrev pub IsPreset : Members → Option Preset → Type 0
IsPreset = IsWordAt preset_text key.Preset

-- the level there
abbrev pub IsLevel : Members → Option Level → Type 0
IsLevel = IsWordAt level_text key.Log

-- the times of the preset there, or the usual ones
abbrev pub AreTimes : Members → DefaultTimes → Type 0
AreTimes table times =
    (preset : Option Preset) × IsPreset table preset × (times ≡ times_of preset)

-- the table says these settings of the member, with these times in the place of its own ones; its
-- group, endpoint, block and rules aside
pub record SaysMember (times : DefaultTimes) (table : Members) (settings : Settings) : Type 0 where
  pub lambda : IsNumber Lambda times.lambda table settings.lambda
  pub period : IsNumber Period times.period table settings.period
  pub direct : IsNumber Direct times.direct table settings.direct
  pub suspect : IsNumber Suspect times.suspect table settings.suspect
  pub forget : IsNumber Forget times.forget table settings.forget
  pub helpers : IsNumber Helpers times.helpers table settings.helpers

-- the table says these settings
pub record Says (table : Members) (run : RunSettings) : Type 0 where
  pub file : text_at File table ≡ Some (string_bytes run.file)
  pub group : number_at Group table ≡ Some run.settings.group
  pub me : text_at Me table ≡ Some (endpoint_text run.settings.me)
  pub control : text_at Control table ≡ Some (control_text run.control)
  pub preset : IsPreset table run.preset
  pub tick_ms : IsNumber TickMs (times_of run.preset).tick_ms table run.tick_ms
  pub member : SaysMember (times_of run.preset) table run.settings
  pub limit : IsNumber Limit 4096 table run.limit
  pub block : IsNumber Block 1 table run.settings.block
  pub rules : IsNumber Rules 1 table run.settings.rules
  pub has_rules : run.has_rules ≡ is_some (value_at Rules table)
  pub random_key : AreBytes RandomKey table run.random_key
  pub join : ArePlaces JOIN_MAX Join table run.join.items
  pub rejoin : IsNumber Rejoin (times_of run.preset).rejoin table run.rejoin
  pub introduce : IsNumber Introduce 64 table run.introduce
  pub expelled : EndsExpelled table run.ends_expelled
  pub record_folder : IsFolder Record table (option_map string_bytes run.record_folder)
  pub record_eras : IsNumber RecordEras 8 table run.record_eras
  pub log : IsLevel table run.log

-- the endpoint whose text is there
abbrev pub IsEndpointAt : Key → Members → ℕ → Type 0
IsEndpointAt key table e = (text_at key table ≡ Some (endpoint_text e)) × IsEndpoint e

-- the control socket whose text is there
abbrev pub IsControlAt : Members → ControlPlace → Type 0
IsControlAt table place = (text_at Control table ≡ Some (control_text place)) × IsControl place

-- the number there, or the default, from the least to the most
abbrev pub IsWithin : Key → ℕ → ℕ → ℕ → Members → ℕ → Type 0
IsWithin key default least most table n = IsNumber key default table n × (least ≤ n) × (n ≤ most)

-- the number there, or that of the table's preset, from the least to the most
abbrev pub IsTime : Key → (DefaultTimes → ℕ) → ℕ → ℕ → Members → Type 0
IsTime key usual least most table =
    (times : DefaultTimes) × (n : ℕ) × AreTimes table times
    × IsWithin key (usual times) least most table n

-- neither is the number there, nor that of the table's preset, from the least to the most
abbrev pub IsNoTime : Key → (DefaultTimes → ℕ) → ℕ → ℕ → Members → Type 0
IsNoTime key usual least most table =
    (times : DefaultTimes) × AreTimes table times × No (IsWithin key (usual times) least most table)

-- the table has nothing at the key that the key takes
abbrev pub IsRefused : Key → Members → Type 0
IsRefused File table = text_at File table ≡ None
IsRefused Group table = number_at Group table ≡ None
IsRefused Me table = No (IsEndpointAt Me table)
IsRefused Control table = No (IsControlAt table)
IsRefused key.Preset table = No (IsPreset table)
IsRefused TickMs table = IsNoTime TickMs (λ times. times.tick_ms) 1 60000 table
IsRefused Lambda table = IsNoTime Lambda (λ times. times.lambda) 1 16 table
IsRefused Period table = IsNoTime Period (λ times. times.period) 2 1000 table
IsRefused Direct table =
    (times : DefaultTimes) × (period : ℕ) × AreTimes table times
    × IsNumber Period times.period table period
    × No (IsWithin Direct times.direct 1 (period - 1) table)
IsRefused Suspect table = IsNoTime Suspect (λ times. times.suspect) 1 100000 table
IsRefused Forget table = IsNoTime Forget (λ times. times.forget) 1 1000000 table
IsRefused Helpers table = IsNoTime Helpers (λ times. times.helpers) 0 HELPERS_MAX table
IsRefused Limit table = No (IsWithin Limit 4096 1 65536 table)
IsRefused Block table = No (IsWithin Block 1 1 BLOCK_MAX table)
IsRefused Rules table = No (IsWithin Rules 1 1 2 table)
IsRefused RandomKey table = No (AreBytes RandomKey table)
IsRefused Join table = No (ArePlaces JOIN_MAX Join table)
IsRefused Rejoin table = IsNoTime Rejoin (λ times. times.rejoin) 0 1000000 table
IsRefused Introduce table = No (IsWithin Introduce 64 0 256 table)
IsRefused Expelled table = No (EndsExpelled table)
IsRefused Record table = No (IsFolder Record table)
IsRefused RecordEras table = No (IsWithin RecordEras 8 1 1000 table)
IsRefused key.Log table = No (IsLevel table)

-- the refusal is of the text, which is no TOML, or memory ran out
abbrev pub IsOfText : List ℕ → SettingsRefusal → Type 0
IsOfText text refusals.Memory = Unit
IsOfText text refusals.Toml = IsUtf8 text → parse_document text ≡ None
IsOfText text _ = ⊥

-- the table has at the key what the key takes
abbrev pub IsTaken : Key → Members → Type 0
IsTaken File table = (text : List ℕ) × (text_at File table ≡ Some text)
IsTaken Group table = (n : ℕ) × (number_at Group table ≡ Some n)
IsTaken Me table = (e : ℕ) × (text_at Me table ≡ Some (endpoint_text e))
IsTaken Control table = (place : ControlPlace) × (text_at Control table ≡ Some (control_text place))
IsTaken key.Preset table = (preset : Option Preset) × IsPreset table preset
IsTaken TickMs table = IsTime TickMs (λ times. times.tick_ms) 1 60000 table
IsTaken Lambda table = IsTime Lambda (λ times. times.lambda) 1 16 table
IsTaken Period table = IsTime Period (λ times. times.period) 2 1000 table
IsTaken Direct table =
    (times : DefaultTimes) × (period n : ℕ) × AreTimes table times
    × IsNumber Period times.period table period
    × IsWithin Direct times.direct 1 (period - 1) table n
IsTaken Suspect table = IsTime Suspect (λ times. times.suspect) 1 100000 table
IsTaken Forget table = IsTime Forget (λ times. times.forget) 1 1000000 table
IsTaken Helpers table = IsTime Helpers (λ times. times.helpers) 0 HELPERS_MAX table
IsTaken Limit table = (n : ℕ) × IsWithin Limit 4096 1 65536 table n
IsTaken Block table = (n : ℕ) × IsWithin Block 1 1 BLOCK_MAX table n
IsTaken Rules table = (n : ℕ) × IsWithin Rules 1 1 2 table n
IsTaken RandomKey table = (bytes : Option (List ℕ)) × AreBytes RandomKey table bytes
IsTaken Join table = (ps : List Place) × ArePlaces JOIN_MAX Join table ps
IsTaken Rejoin table = IsTime Rejoin (λ times. times.rejoin) 0 1000000 table
IsTaken Introduce table = (n : ℕ) × IsWithin Introduce 64 0 256 table n
IsTaken Expelled table = (is_end : Bool) × EndsExpelled table is_end
IsTaken Record table = (folder : Option (List ℕ)) × IsFolder Record table folder
IsTaken RecordEras table = (n : ℕ) × IsWithin RecordEras 8 1 1000 table n
IsTaken key.Log table = (level : Option Level) × IsLevel table level

-- all keys before the key have what they take
abbrev pub AreTakenBefore : Key → Members → Type 0
AreTakenBefore key table = AllByRecursion (λ earlier. IsTaken earlier table) (keys_before key)

-- the key is the first that is refused
abbrev pub IsFirst : Key → Members → Type 0
IsFirst key table = AreTakenBefore key table × IsRefused key table

-- the refusal is of the first key that is refused, or memory ran out
abbrev pub IsOfKey : Members → SettingsRefusal → Type 0
IsOfKey table refusals.Memory = Unit
IsOfKey table (refusals.Key key) = IsFirst key table
IsOfKey table _ = ⊥

-- the text is refused with reason: it is no TOML, its table has a value that its key does not
-- take, or it says settings, but has a key that no settings file has. Or memory ran out
abbrev pub IsReason : List ℕ → SettingsRefusal → Type 0
IsReason text refusals.Memory = Unit
IsReason text refusals.Toml = IsUtf8 text → parse_document text ≡ None
IsReason text (refusals.Key key) =
    (table : Members) × (parse_document text ≡ Some table) × IsFirst key table
IsReason text (refusals.Unknown name) =
    (table : Members) × (run : RunSettings) × (parse_document text ≡ Some table)
    × Says table run × IsFirstUnknown key_text keys table (string_bytes name)
