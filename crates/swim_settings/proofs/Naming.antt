-- Names of hosts, words of values, and keys of tables.
use Rattle.std.proofs.Common.{◌≡◌, ℕ, ◌<◌, ◌*◌, true, false, List, [], ◌∷◌, ◌++◌, map, length, All, Contains, Option, Some, None, Result, Ok, Err, MatchResult, lit<, refl, sym, ap, ◌∙◌, subst, append_assoc, arith, is_ok}
use Rattle.std.specs.Prelude.{◌≢◌, String, string_bytes, option_and_then, IfSome, IfNone, is_some}
use Rattle.std.specs.Str.{IsUtf8}
use Rattle.std.proofs.lemmas.Bool.Decides.{nat_tests}
use Rattle.std.specs.declared.alloc.Global.{Global}
use Rattle.std.proofs.lemmas.List.{append-nil}
use Rattle.std.proofs.lemmas.List.Elements.{All-append, All-cons, All-contains, All-nil, All-weaker}
use Rattle.std.proofs.lemmas.List.Sums.{AllPass-from_list_all}
use Rattle.std.proofs.lemmas.Str.{IsUtf8-from_ascii}
use Rattle.std.proofs.lemmas.Str.Ascii.{IsAscii-from_all}
use Rattle.hex.specs.Hex.{decode_of, decode_sized}
use Rattle.hex.specs.declared.FromHexError.{FromHexError}
use Rattle.hex.proofs.HexLemmas.{decode_of-ok, decode_sized-twice}
use Rattle.toml.specs.Data.{Members, as_str}
use Rattle.toml.specs.Parse.{parse_document}
use Rattle.toml.specs.View.{members_view}
use Rattle.toml.specs.declared.value.Value.{Value}
use Rattle.swim_words.specs.Hosts.{IsHostName, is_host_byte}
use Rattle.swim_words.specs.Words.{No}
use Rattle.swim_settings.specs.declared.key.Key.{Key}
use Rattle.swim_settings.specs.declared.level.Level.{Level}
use Rattle.swim_settings.specs.declared.level.Level.TheVariants as level
use Rattle.swim_settings.specs.declared.level.TheConstants.Level.{ALL as LEVELS}
use Rattle.swim_settings.specs.declared.preset.Preset.{Preset}
use Rattle.swim_settings.specs.declared.preset.Preset.TheVariants as preset
use Rattle.swim_settings.specs.declared.preset.TheConstants.Preset.{ALL as PRESETS}
use Rattle.swim_settings.specs.declared.refusal.SettingsRefusal.{SettingsRefusal}
use Rattle.swim_settings.specs.declared.refusal.SettingsRefusal.TheVariants as refusals
use Rattle.swim_settings.specs.declared.settings.RunSettings.{RunSettings}
use Rattle.swim_settings.specs.Keys.{key_text, keys}
use Rattle.swim_settings.specs.Says.{IsReason, IsWordAt, Says, text_at}
use Rattle.swim_settings.specs.Unknown.{IsFirstUnknown, IsNamed, IsOfUnknown, table_names}

is_ascii : (b : ℕ) → is_host_byte b ≡ true → b < 128
is_ascii b test = grind (arith, nat_tests)

pub host_is_text : (name : List ℕ) → IsHostName name → IsUtf8 name
host_is_text name host =
    let small : All (λ b. b < 128) name = All-weaker (λ b. is_host_byte b ≡ true) (λ b. b < 128) is_ascii name (AllPass-from_list_all is_host_byte name host.bytes) in
    IsUtf8-from_ascii name (IsAscii-from_all name small)

-- what is no text is none whatever else is known of it
pub is_no_text : {A E : Type 0} (P : A → Type 0) (Q : E → Type 0) (r : Result A E) (bytes : List ℕ) → MatchResult r (λ s. P s × IsUtf8 bytes) (λ e. (IsUtf8 bytes → ⊥) × Q e) → is_ok r ≡ false → IsUtf8 bytes → ⊥
is_no_text P Q (Ok s) bytes cases none text = cc
is_no_text P Q (Err e) bytes cases none text = cases.0 text

-- a text whose digits spell 32 bytes is decoded
pub sized : (text bytes : List ℕ) (r : Result (List ℕ) FromHexError) → r ≡ decode_sized text 32 → is_ok r ≡ false → length bytes ≡ 32 → decode_of text ≢ Ok bytes
sized text bytes r is none long spelled =
    let facts = decode_of-ok text bytes spelled in
    let twice : length text ≡ 2 * 32 = omega (arith, facts.2, long) in
    let same : r ≡ Ok bytes = is ∙ decode_sized-twice text 32 twice ∙ spelled in
    cc (ap is_ok same)

pub no_bytes : (at : Option (List ℕ)) (text : List ℕ) (r : Result (List ℕ) FromHexError) (o : Option (List ℕ)) → at ≡ Some text → r ≡ decode_sized text 32 → is_some o ≡ is_ok r → IfNone o ((t bytes : List ℕ) → at ≡ Some t → length bytes ≡ 32 → decode_of t ≢ Ok bytes)
no_bytes at text r None is decoded variant = λ t bytes says long spelled.
    let same : t ≡ text = let e = sym says ∙ is in cc in
    sized text bytes r decoded (sym variant) long (ap decode_of (sym same) ∙ spelled)
no_bytes at text r (Some x) is decoded variant = tt

-- a text that is none of all words
pub no_word : {W : Type 0} (text_of : W → List ℕ) (key : Key) (table : Members) (words : List W) (text : List ℕ) → ((w : W) → Contains words w) → text_at key table ≡ Some text → All (λ w. text ≢ text_of w) words → No (IsWordAt text_of key table)
no_word text_of key table words text full at none None is = cc (sym at ∙ ap (option_and_then as_str) is)
no_word text_of key table words text full at none (Some w) is =
    All-contains (λ v. text ≢ text_of v) words w none (full w) (let same = sym at ∙ is in cc)

-- a word that a table has is named
pub is_named : {K : Type 0} (text_of : K → List ℕ) (keys : List K) (word : List ℕ) (found : Option K) → IfSome found (λ key. Contains keys key) → IfSome found (λ key. word ≡ text_of key) → is_some found ≡ true → IsNamed text_of keys word
is_named text_of keys word None among some is = cc
is_named text_of keys word (Some key) among some is = (key, among, some)

-- and one that it has not is not
pub is_unnamed : {K : Type 0} (text_of : K → List ℕ) (keys : List K) (word : List ℕ) (found : Option K) → IfNone found (All (λ key. word ≢ text_of key) keys) → is_some found ≡ false → All (λ key. word ≢ text_of key) keys
is_unnamed text_of keys word None none is = none
is_unnamed text_of keys word (Some key) none is = cc

-- the names of a table are the keys of its map
pub names_are : (es : List (String Global × Value)) → table_names (members_view es) ≡ map string_bytes (map (λ e. e.0) es)
names_are [] = refl
names_are (e ∷ es) = ap (λ names. string_bytes e.0 ∷ names) (names_are es)

-- the names that are known, and what is left of the keys
abbrev pub KnownSoFar : (List ℕ → Type 0) → Members → List (String Global) → Type 0
KnownSoFar P table left = (before : List (List ℕ)) × (table_names table ≡ before ++ map string_bytes left) × All P before

pub one_known : (P : List ℕ → Type 0) (table : Members) (left rest : List (String Global)) (name : String Global) → left ≡ name ∷ rest → P (string_bytes name) → KnownSoFar P table left → KnownSoFar P table rest
one_known P table left rest name is known (before, names, all) = (
  before ++ string_bytes name ∷ [],
  names ∙ ap (λ l. before ++ map string_bytes l) is ∙ sym (append_assoc before (string_bytes name ∷ []) (map string_bytes rest)),
  All-append P before (string_bytes name ∷ []) all (All-cons P (string_bytes name) [] known (All-nil P)),
)

pub all_known : (P : List ℕ → Type 0) (table : Members) (left : List (String Global)) → left ≡ [] → KnownSoFar P table left → All P (table_names table)
all_known P table left end (before, names, all) =
    let whole : table_names table ≡ before = names ∙ ap (λ l. before ++ map string_bytes l) end ∙ append-nil before in
    subst (All P) (sym whole) all

pub first_unknown : {K : Type 0} (text_of : K → List ℕ) (keys : List K) (table : Members) (left rest : List (String Global)) (name : String Global) (told : List ℕ) → left ≡ name ∷ rest → told ≡ string_bytes name → All (λ key. string_bytes name ≢ text_of key) keys → KnownSoFar (IsNamed text_of keys) table left → IsFirstUnknown text_of keys table told
first_unknown text_of keys table left rest name told is same unknown (before, names, all) = record {
  before = before;
  after = map string_bytes rest;
  names = names ∙ ap (λ l. before ++ map string_bytes l) is ∙ ap (λ w. before ++ w ∷ map string_bytes rest) (sym same);
  earlier = all;
  unknown = subst (λ w. All (λ key. w ≢ text_of key) keys) (sym same) unknown;
}

-- so the text that was refused for it is refused with reason
pub unknown_is_reason : (text : List ℕ) (table : Members) (run : RunSettings) (refusal : SettingsRefusal) → parse_document text ≡ Some table → Says table run → IsOfUnknown key_text keys table refusal → IsReason text refusal
unknown_is_reason text table run refusals.Memory parsed says is = tt
unknown_is_reason text table run refusals.Toml parsed says is = absurd is
unknown_is_reason text table run (refusals.Key key) parsed says is = absurd is
unknown_is_reason text table run (refusals.Unknown name) parsed says is = (table, run, parsed, says, is)

pub all_presets : (p : Preset) → Contains PRESETS p
all_presets preset.Local = (0, lit< tt, refl)
all_presets preset.Lan = (1, lit< tt, refl)
all_presets preset.Wan = (2, lit< tt, refl)

pub all_levels : (l : Level) → Contains LEVELS l
all_levels level.Off = (0, lit< tt, refl)
all_levels level.Error = (1, lit< tt, refl)
all_levels level.Warn = (2, lit< tt, refl)
all_levels level.Info = (3, lit< tt, refl)
all_levels level.Debug = (4, lit< tt, refl)
all_levels level.Trace = (5, lit< tt, refl)
