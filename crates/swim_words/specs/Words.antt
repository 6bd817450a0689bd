-- The words of a line: numbers and endpoints.
use Rattle.std.specs.Prelude.{◌≡◌, ◌≢◌, ℕ, ◌≤◌, List, All}
use Rattle.std.specs.Fmt.{decimal}
use Rattle.swim_wire.specs.Numbers.{IsEndpoint}
pub use Rattle.swim_wire.specs.Text.{split_by, dotted, endpoint_text}

-- no value is such
abbrev pub No : {A : Type 0} → (A → Type 0) → Type 0
No {A} P = (x : A) → P x → ⊥

-- the byte isn't in the text
abbrev pub Lacks : ℕ → List ℕ → Type 0
Lacks byte text = All (λ found. found ≢ byte) text

-- two words with a space between them
abbrev pub spaced : List ℕ → List ℕ → List ℕ
spaced word rest = split_by 32 word rest

-- the text is this number, from the least to the most
pub record SaysNumber (text : List ℕ) (least most n : ℕ) : Type 0 where
  pub says : text ≡ decimal n
  pub at_least : least ≤ n
  pub at_most : n ≤ most

-- the text is this endpoint
pub record SaysEndpoint (text : List ℕ) (e : ℕ) : Type 0 where
  pub says : text ≡ endpoint_text e
  pub endpoint : IsEndpoint e
