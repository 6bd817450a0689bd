-- The keys of a settings file.
use Rattle.std.specs.Prelude.{ℕ, List, [], ◌∷◌, take, codes}
use Rattle.swim_settings.specs.declared.key.Key.{Key}
use Rattle.swim_settings.specs.declared.key.Key.TheVariants.{File, Group, Me, Control}
use Rattle.swim_settings.specs.declared.key.Key.TheVariants.{Preset, TickMs}
use Rattle.swim_settings.specs.declared.key.Key.TheVariants.{Lambda, Period, Direct, Suspect}
use Rattle.swim_settings.specs.declared.key.Key.TheVariants.{Forget, Helpers, Limit, Block, Rules}
use Rattle.swim_settings.specs.declared.key.Key.TheVariants.{RandomKey, Join, Rejoin, Introduce}
use Rattle.swim_settings.specs.declared.key.Key.TheVariants.{Expelled, Record, RecordEras, Log}

-- the key as a file has it
abbrev pub key_text : Key → List ℕ
key_text File = codes "file"
key_text Group = codes "group"
key_text Me = codes "me"
key_text Control = codes "control"
key_text Preset = codes "preset"
key_text TickMs = codes "tick_ms"
key_text Lambda = codes "lambda"
key_text Period = codes "period"
key_text Direct = codes "direct"
key_text Suspect = codes "suspect"
key_text Forget = codes "forget"
key_text Helpers = codes "helpers"
key_text Limit = codes "limit"
key_text Block = codes "block"
key_text Rules = codes "rules"
key_text RandomKey = codes "random_key"
key_text Join = codes "join"
key_text Rejoin = codes "rejoin"
key_text Introduce = codes "introduce"
key_text Expelled = codes "expelled"
key_text Record = codes "record"
key_text RecordEras = codes "record_eras"
key_text Log = codes "log"

-- all keys, in the order in which a refused one is looked for
abbrev pub keys : List Key
keys = File ∷ Group ∷ Me ∷ Control ∷ Preset ∷ TickMs ∷ Lambda ∷ Period ∷ Direct ∷ Suspect ∷ Forget
    ∷ Helpers ∷ Limit ∷ Block ∷ Rules ∷ RandomKey ∷ Join ∷ Rejoin ∷ Introduce ∷ Expelled ∷ Record
    ∷ RecordEras ∷ Log ∷ []

-- how many keys come before it
abbrev pub key_place : Key → ℕ
key_place File = 0
key_place Group = 1
key_place Me = 2
key_place Control = 3
key_place Preset = 4
key_place TickMs = 5
key_place Lambda = 6
key_place Period = 7
key_place Direct = 8
key_place Suspect = 9
key_place Forget = 10
key_place Helpers = 11
key_place Limit = 12
key_place Block = 13
key_place Rules = 14
key_place RandomKey = 15
key_place Join = 16
key_place Rejoin = 17
key_place Introduce = 18
key_place Expelled = 19
key_place Record = 20
key_place RecordEras = 21
key_place Log = 22

-- the keys before it
abbrev pub keys_before : Key → List Key
keys_before key = take (key_place key) keys
