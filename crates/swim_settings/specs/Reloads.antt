-- Which keys a running member takes where its settings are read again, and which need a restart.
use Rattle.std.specs.Prelude.{ℕ, ◌==◌, ◌&&◌, Bool, true, false, not, List, bytes_eq}
use Rattle.std.specs.Prelude.{Option, Some, None}
use Rattle.std.specs.List.{filter}
use Rattle.swim_settings.specs.declared.key.Key.{Key}
use Rattle.swim_settings.specs.declared.key.Key.TheVariants as key
use Rattle.swim_settings.specs.declared.settings.RunSettings.{RunSettings}
use Rattle.swim_settings.specs.Controls.{is_same_control}
use Rattle.swim_settings.specs.Keys.{keys}
use Rattle.swim_settings.specs.Shown.{shown_number, shown_text}

-- the key is taken while the member runs
abbrev pub is_taken_anew : Key → Bool
is_taken_anew key.Join = true
is_taken_anew key.Rejoin = true
is_taken_anew key.Introduce = true
is_taken_anew key.Record = true
is_taken_anew key.RecordEras = true
is_taken_anew key.Log = true
is_taken_anew _ = false

-- what is in force after these settings were read again: theirs at the keys that are taken, and at
-- all others what was in force
abbrev pub taken_anew : RunSettings → RunSettings → RunSettings
taken_anew now then = record now {
  join = then.join;
  rejoin = then.rejoin;
  introduce = then.introduce;
  record_folder = then.record_folder;
  record_eras = then.record_eras;
  log = then.log;
}

-- the same number, or none twice
abbrev pub same_number : Option ℕ → Option ℕ → Bool
same_number (Some a) (Some b) = a == b
same_number None None = true
same_number _ _ = false

-- the same bytes, or none twice
abbrev pub same_text : Option (List ℕ) → Option (List ℕ) → Bool
same_text (Some a) (Some b) = bytes_eq a b
same_text None None = true
same_text _ _ = false

-- both have the same at a key that is not taken anew
abbrev pub agree_at : RunSettings → RunSettings → Key → Bool
agree_at now then key.Me = now.settings.me == then.settings.me
agree_at now then key.Control = is_same_control now.control then.control
agree_at now then key.RandomKey = same_text now.random_key then.random_key
agree_at now then key =
    same_number (shown_number key now) (shown_number key then)
    && same_text (shown_text key now) (shown_text key then)

-- they differ at the key, and a running member doesn't take it
abbrev pub needs_restart : RunSettings → RunSettings → Key → Bool
needs_restart now then key = not (is_taken_anew key) && not (agree_at now then key)

-- the keys at which they do, in order
abbrev pub restart_keys : RunSettings → RunSettings → List Key
restart_keys now then = filter (needs_restart now then) keys
