-- How long hex words are, and what a refusal of one sort says of another.
use Rattle.std.proofs.Common.{◌≡◌, ℕ, ◌*◌, ◌<◌, ◌≤◌, ◌⊎◌, List, length, inl, inr, sym, ap, ◌∙◌, arith}
use Rattle.hex.proofs.HexLemmas.{decode_of-ok, decode_of-same}
use Rattle.swim_script.specs.declared.fault.FaultKind.{FaultKind}
use Rattle.swim_words.specs.Words.{No}
use Rattle.swim_script.specs.Bytes.{Refuses, IsBytes, IsCut}

-- what holds of no value holds of none that would be made of one
pub refuses_from : {A B : Type 0} {P : A → Type 0} {Q : B → Type 0} (kind : FaultKind) → ((y : B) → Q y → (x : A) × P x) → Refuses kind P → Refuses kind Q
refuses_from kind made (inl memory) = inl memory
refuses_from kind made (inr (argument, none)) = inr (argument, λ y holds. none (made y holds).0 (made y holds).1)

-- a word of hex digits is twice as long as its bytes, or `-`
word_length : (word bytes : List ℕ) → IsBytes word bytes → (2 * length bytes ≤ length word) × ((length word ≡ 2 * length bytes) ⊎ (length word ≡ 1))
word_length word bytes (inl (dash, none)) = (omega (arith, ap length none), inr (ap length dash))
word_length word bytes (inr (some, decoded)) = let twice = (decode_of-ok word bytes decoded).2 in (omega arith, inl twice)

pub short_bytes : (word bytes : List ℕ) → length word ≤ 1200 → IsBytes word bytes → length bytes ≤ 600
short_bytes word bytes short spelled = let twice = word_length word bytes spelled in omega arith

pub long_word : (word : List ℕ) → 1200 < length word → No (IsCut word)
long_word word long bytes is = let twice = word_length word is.all is.spelled in let short = is.short in omega arith

-- a word spells one text of bytes
pub same_bytes : (word a b : List ℕ) → IsBytes word a → IsBytes word b → a ≡ b
same_bytes word a b (inl (dash, none)) (inl (other, nothing)) = none ∙ sym nothing
same_bytes word a b (inl (dash, none)) (inr (some, decoded)) =
    let twice = (decode_of-ok word b decoded).2 in
    let one = ap length dash in
    absurd (omega arith)
same_bytes word a b (inr (some, decoded)) (inl (dash, none)) =
    let twice = (decode_of-ok word a decoded).2 in
    let one = ap length dash in
    absurd (omega arith)
same_bytes word a b (inr (some, decoded)) (inr (other, read)) = decode_of-same word a b decoded read
