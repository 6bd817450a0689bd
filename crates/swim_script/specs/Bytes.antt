-- Bytes in a script, as hex.
use Rattle.std.specs.Prelude.{◌≡◌, ℕ, ◌<◌, ◌≤◌, ◌⊎◌, List, [], ◌∷◌, length, take, Ok}
use Rattle.hex.specs.Hex.{decode_of}
use Rattle.swim_words.specs.Words.{No}
use Rattle.swim_script.specs.declared.bytes.TheConstants.{HEX_MAX}
use Rattle.swim_script.specs.declared.fault.FaultKind.{FaultKind}
use Rattle.swim_script.specs.declared.fault.FaultKind.TheVariants as fault
use Rattle.swim_member.specs.declared.event.TheConstants.{RECEIVED_MAX}

-- why none was read: there is no such value, or memory ran out
abbrev pub Refuses : {A : Type 0} → FaultKind → (A → Type 0) → Type 0
Refuses kind P = (kind ≡ fault.NoMemory) ⊎ ((kind ≡ fault.Argument) × No P)

-- bytes as hex digits; `-` is the text of no bytes
abbrev pub IsBytes : List ℕ → List ℕ → Type 0
IsBytes word bytes =
    ((word ≡ 45 ∷ []) × (bytes ≡ [])) ⊎ ((0 < length word) × (decode_of word ≡ Ok bytes))

-- at most 600 bytes as hex digits, and as many of them as a member keeps of a datagram
pub record IsCut (word bytes : List ℕ) : Type 0 where
  pub all : List ℕ
  pub spelled : IsBytes word all
  pub short : length all ≤ HEX_MAX
  pub cut : bytes ≡ take RECEIVED_MAX all
