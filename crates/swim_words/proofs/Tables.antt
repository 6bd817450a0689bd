-- Values that are named by a word each, and a table that has each value of their type.
use Rattle.std.proofs.Common.{◌≡◌, Bool, true, false, cond, List, [], ◌∷◌, ℕ, Option, Some, None, All, Contains, IfNone, sym, ap, ◌∙◌, arith}
use Rattle.std.specs.Prelude.{◌≢◌, if◌then◌else◌}
use Rattle.std.specs.Str.{bytes_eq}
use Rattle.std.proofs.lemmas.List.Elements.{All-contains, Contains-append_right}
use Rattle.std.proofs.lemmas.Option.{same_Some}
use Rattle.swim_words.specs.Words.{No}

-- the first value of a table that has this word
abbrev pub named_in : {A : Type 0} → (A → List ℕ) → List A → List ℕ → Option A
named_in text_of [] word = None
named_in text_of (value ∷ all) word = if bytes_eq word (text_of value) then Some value else named_in text_of all word

-- what a word names is in the table
pub in_table : {A : Type 0} (text_of : A → List ℕ) (all : List A) (word : List ℕ) (value : A) → named_in text_of all word ≡ Some value → Contains all value
in_table text_of [] word value is = absurd (cc)
in_table text_of (first ∷ all) word value is = at (bytes_eq word (text_of first)) is (λ k. in_table text_of all word value k)
  where
    at : (b : Bool) → cond b (Some first) (named_in text_of all word) ≡ Some value → (named_in text_of all word ≡ Some value → Contains all value) → Contains (first ∷ all) value
    at true same rest = (0, omega arith, same_Some first value same)
    at false named rest = Contains-append_right (first ∷ []) all value (rest named)

-- where each value is named by its word, no other value has that word
pub same_value : {A : Type 0} (text_of : A → List ℕ) (all : List A) → ((value : A) → named_in text_of all (text_of value) ≡ Some value) → (a b : A) → text_of a ≡ text_of b → a ≡ b
same_value text_of all finds a b same = same_Some a b (sym (finds a) ∙ ap (named_in text_of all) same ∙ finds b)

-- a word that none of a table has is that of no value, where the table has each
pub none_named : {A : Type 0} (text_of : A → List ℕ) (all : List A) (word : List ℕ) (result : Option A) → ((value : A) → Contains all value) → IfNone result (All (λ value. word ≢ text_of value) all) → IfNone result (No (λ value. word ≡ text_of value))
none_named text_of all word None full none = λ value is. All-contains (λ value. word ≢ text_of value) all value none (full value) is
none_named text_of all word (Some found) full none = none

-- nothing is found for another reason
pub IfNone_then : {T P Q : Type 0} (o : Option T) → (P → Q) → IfNone o P → IfNone o Q
IfNone_then None so holds = so holds
IfNone_then (Some x) so holds = holds
