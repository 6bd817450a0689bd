-- Keys of a table that no file of its kind has.
use Rattle.std.specs.Prelude.{◌≡◌, ◌≢◌, ℕ, List, [], ◌∷◌, ◌++◌, All, Contains, string_bytes}
use Rattle.toml.specs.Data.{Members, no_members, member}
use Rattle.swim_settings.specs.declared.refusal.SettingsRefusal.{SettingsRefusal}
use Rattle.swim_settings.specs.declared.refusal.SettingsRefusal.TheVariants as refusals

-- the keys of a table, in their order
abbrev pub table_names : Members → List (List ℕ)
table_names no_members = []
table_names (member name _ rest) = name ∷ table_names rest

-- one of the keys has this name
abbrev pub IsNamed : {K : Type 0} → (text_of : K → List ℕ) → List K → List ℕ → Type 0
IsNamed {K} text_of keys name = (key : K) × Contains keys key × (name ≡ text_of key)

-- each name in the table is that of a key
abbrev pub AreNamed : {K : Type 0} → (text_of : K → List ℕ) → List K → Members → Type 0
AreNamed text_of keys table = All (IsNamed text_of keys) (table_names table)

-- the name is the first in the table that no key has
pub record IsFirstUnknown {K : Type 0} (text_of : K → List ℕ) (keys : List K) (table : Members)
    (name : List ℕ) : Type 0 where
  pub before : List (List ℕ)
  pub after : List (List ℕ)
  pub names : table_names table ≡ before ++ name ∷ after
  pub earlier : All (IsNamed text_of keys) before
  pub unknown : All (λ key. name ≢ text_of key) keys

-- the refusal is of the first name that no key has, or memory ran out
abbrev pub IsOfUnknown : {K : Type 0} → (text_of : K → List ℕ) → List K → Members → SettingsRefusal
    → Type 0
IsOfUnknown text_of keys table refusals.Memory = Unit
IsOfUnknown text_of keys table (refusals.Unknown name) =
    IsFirstUnknown text_of keys table (string_bytes name)
IsOfUnknown text_of keys table _ = ⊥
