-- Keywords and settings are one word each, each has a word of its own, and each is in its table.
use Rattle.std.proofs.Common.{◌≡◌, ℕ, List, refl, sym, Some, Contains}
use Rattle.swim_script.specs.declared.command.Setting.{Setting}
use Rattle.swim_script.specs.declared.command.Setting.TheVariants as setting
use Rattle.swim_script.specs.declared.keyword.Keyword.{Keyword}
use Rattle.swim_script.specs.declared.keyword.Keyword.TheVariants as keyword
use Rattle.swim_script.specs.declared.keyword.TheConstants.Keyword.{ALL as KEYWORDS}
use Rattle.swim_script.specs.declared.command.TheConstants.Setting.{ALL as SETTINGS}
use Rattle.swim_words.specs.Words.{Lacks}
use Rattle.swim_script.specs.Commands.{keyword_text, line_of, setting_text}
use Rattle.swim_words.proofs.Tables.{named_in, in_table, same_value}
use Rattle.swim_words.proofs.Splits.{lacks_byte, no_split, same_split}

pub keyword_lacks : (k : Keyword) → Lacks 32 (keyword_text k)
keyword_lacks keyword.Group = lacks_byte 32 (keyword_text keyword.Group) refl
keyword_lacks k = lacks_byte 32 (keyword_text k) refl

pub setting_lacks : (s : Setting) → Lacks 32 (setting_text s)
setting_lacks setting.Lambda = lacks_byte 32 (setting_text setting.Lambda) refl
setting_lacks s = lacks_byte 32 (setting_text s) refl

-- its word names it in the table
keywords : (k : Keyword) → named_in keyword_text KEYWORDS (keyword_text k) ≡ Some k
keywords keyword.Group = refl
keywords _ = refl

settings : (s : Setting) → named_in setting_text SETTINGS (setting_text s) ≡ Some s
settings setting.Lambda = refl
settings _ = refl

pub all_keywords : (k : Keyword) → Contains KEYWORDS k
all_keywords k = in_table keyword_text KEYWORDS (keyword_text k) k (keywords k)

pub all_settings : (s : Setting) → Contains SETTINGS s
all_settings s = in_table setting_text SETTINGS (setting_text s) s (settings s)

pub same_line : (j k : Keyword) (a b : List ℕ) → line_of j a ≡ line_of k b → (j ≡ k) × (a ≡ b)
same_line j k a b same =
    let parts = same_split 32 (line_of j a) (keyword_text j) a (keyword_text k) b (keyword_lacks j) refl (keyword_lacks k) same in
    (same_value keyword_text KEYWORDS keywords j k parts.0, parts.1)

pub other_line : (j k : Keyword) (a b : List ℕ) → (j ≡ k → ⊥) → line_of j a ≡ line_of k b → ⊥
other_line j k a b other same = other (same_line j k a b same).0

-- a line with arguments is no keyword alone
pub not_alone : (j k : Keyword) (a : List ℕ) → line_of j a ≡ keyword_text k → ⊥
not_alone j k a same = no_split 32 (keyword_text j) a (keyword_text k) (keyword_lacks k) (sym same)
