-- A text of words and counts is read in one way.
use Rattle.std.proofs.Common.{◌≡◌, ℕ, ◌^◌, ◌<◌, ◌⊎◌, List, ◌∷◌, ◌++◌, append_assoc, refl, sym, ◌∙◌}
use Rattle.std.specs.Prelude.{◌≢◌}
use Rattle.std.specs.Fmt.{decimal}
use Rattle.std.proofs.lemmas.Fmt.{decimal_injective}
use Rattle.std.proofs.lemmas.List.{append_cancel_left}
use Rattle.swim_words.specs.Words.{Lacks, split_by}
use Rattle.swim_words.proofs.Digits.{lacks_decimal}
use Rattle.swim_words.proofs.Splits.{no_split, same_split}

-- a name, a count and the byte that ends it, and what stands after that
abbrev pub count_text : List ℕ → ℕ → ℕ → List ℕ → List ℕ
count_text name count end rest = (name ++ 32 ∷ decimal count) ++ end ∷ rest

-- it is a name, and after a space a count that is cut at its end
pub cut_text : (name : List ℕ) (count end : ℕ) (rest : List ℕ) → count_text name count end rest ≡ split_by 32 name (split_by end (decimal count) rest)
cut_text name count end rest = append_assoc name (32 ∷ decimal count) (end ∷ rest)

-- what stands after a word and a space is one text
pub after_name : (text name rest more : List ℕ) → text ≡ name ++ 32 ∷ rest → text ≡ name ++ 32 ∷ more → rest ≡ more
after_name text name rest more is says =
    let same : 32 ∷ rest ≡ 32 ∷ more = append_cancel_left name (32 ∷ rest) (32 ∷ more) (sym is ∙ says) in
    cc

-- another first word than this is not this one
pub other_word : (text first rest word more : List ℕ) → text ≡ split_by 32 first rest → Lacks 32 first → first ≢ word → Lacks 32 word → text ≢ word ++ 32 ∷ more
other_word text first rest word more is lacks other apart says =
    other (same_split 32 text first rest word more lacks is apart says).0

-- a text without the byte that ends a count has no count
pub no_count : (text name rest more : List ℕ) (end count : ℕ) → text ≡ name ++ 32 ∷ rest → Lacks end rest → text ≢ count_text name count end more
no_count text name rest more end count is lacks says =
    no_split end (decimal count) more rest lacks (after_name text name rest (split_by end (decimal count) more) is (says ∙ cut_text name count end more))

-- nor has one whose word before that byte is no number
pub no_number : (text name rest word after more : List ℕ) (end count : ℕ) → text ≡ name ++ 32 ∷ rest → rest ≡ split_by end word after → Lacks end word → ((n : ℕ) → n < 2 ^ 64 → word ≢ decimal n) → (end < 48) ⊎ (57 < end) → count < 2 ^ 64 → text ≢ count_text name count end more
no_number text name rest word after more end count is cut lacks none apart fits says =
    let same = after_name text name rest (split_by end (decimal count) more) is (says ∙ cut_text name count end more) in
    none count fits (same_split end rest word after (decimal count) more lacks cut (lacks_decimal end count fits apart) same).0

-- the count after a name and what stands after it are one
pub same_count : (text name rest more : List ℕ) (end n m : ℕ) → (end < 48) ⊎ (57 < end) → n < 2 ^ 64 → m < 2 ^ 64 → text ≡ count_text name n end rest → text ≡ count_text name m end more → (n ≡ m) × (rest ≡ more)
same_count text name rest more end n m apart fits small is says =
    let same = after_name text name (split_by end (decimal n) rest) (split_by end (decimal m) more) (is ∙ cut_text name n end rest) (says ∙ cut_text name m end more) in
    let parts = same_split end (split_by end (decimal n) rest) (decimal n) rest (decimal m) more (lacks_decimal end n fits apart) refl (lacks_decimal end m small apart) same in
    (decimal_injective n m fits small parts.0, parts.1)
