-- An endpoint's text, number by number.
use Rattle.std.proofs.Common.{◌≡◌, ℕ, ◌/◌, ◌%◌, ◌^◌, ◌<◌, ◌⊎◌, List, arith, inl, inr, refl}
use Rattle.std.specs.Prelude.{◌≢◌}
use Rattle.std.specs.Fmt.{decimal}
use Rattle.std.proofs.lemmas.Fmt.{decimal_injective}
use Rattle.swim_wire.specs.Numbers.{IsEndpoint}
use Rattle.swim_words.specs.Words.{No, Lacks, endpoint_text, SaysEndpoint, SaysNumber, split_by}
use Rattle.swim_words.proofs.Digits.{lacks_decimal}
use Rattle.swim_words.proofs.Splits.{lacks_split, no_split, same_split}

-- what a text without the byte says is no number with the byte after it
pub none_before : (text : List ℕ) (byte : ℕ) → Lacks byte text → (n : ℕ) (rest : List ℕ) → n < 256 → text ≢ split_by byte (decimal n) rest
none_before text byte lacks n rest small = no_split byte (decimal n) rest text lacks

-- nor does it begin with a number where its first part is none
pub not_before : (text first after : List ℕ) (byte : ℕ) → (byte < 48) ⊎ (57 < byte) → Lacks byte first → text ≡ split_by byte first after → No (SaysNumber first 0 255) → (n : ℕ) (rest : List ℕ) → n < 256 → text ≢ split_by byte (decimal n) rest
not_before text first after byte apart lacks is none n rest small says =
    let same = same_split byte text first after (decimal n) rest lacks is (lacks_decimal byte n (omega arith) apart) says in
    none n (record { says = same.0; at_least = omega arith; at_most = omega arith })

after_number : (byte n m : ℕ) (text rest after : List ℕ) → (byte < 48) ⊎ (57 < byte) → n < 256 → m < 256 → text ≡ split_by byte (decimal n) rest → text ≡ split_by byte (decimal m) after → rest ≡ after
after_number byte n m text rest after apart small lesser is says =
    (same_split byte text (decimal n) rest (decimal m) after (lacks_decimal byte n (omega arith) apart) is (lacks_decimal byte m (omega arith) apart) says).1

abbrev pub port_text : ℕ → List ℕ
port_text e = decimal (e % 65536)

abbrev pub from_fourth : ℕ → List ℕ
from_fourth e = split_by 58 (decimal (e / 65536 % 256)) (port_text e)

abbrev pub from_third : ℕ → List ℕ
from_third e = split_by 46 (decimal (e / 65536 / 256 % 256)) (from_fourth e)

abbrev pub from_second : ℕ → List ℕ
from_second e = split_by 46 (decimal (e / 65536 / 65536 % 256)) (from_third e)

pub second_in : (text rest : List ℕ) (n e : ℕ) → (n < 256) × (text ≡ split_by 46 (decimal n) rest) → SaysEndpoint text e → rest ≡ from_second e
second_in text rest n e is says =
    let bound = says.endpoint.six_bytes in
    after_number 46 n (e / 65536 / 16777216) text rest (from_second e) (inl (omega arith)) is.0 (omega arith) is.1 says.says

pub third_in : (text rest : List ℕ) (n e : ℕ) → (n < 256) × (text ≡ split_by 46 (decimal n) rest) → text ≡ from_second e → rest ≡ from_third e
third_in text rest n e is says =
    after_number 46 n (e / 65536 / 65536 % 256) text rest (from_third e) (inl (omega arith)) is.0 (omega arith) is.1 says

pub fourth_in : (text rest : List ℕ) (n e : ℕ) → (n < 256) × (text ≡ split_by 46 (decimal n) rest) → text ≡ from_third e → rest ≡ from_fourth e
fourth_in text rest n e is says =
    after_number 46 n (e / 65536 / 256 % 256) text rest (from_fourth e) (inl (omega arith)) is.0 (omega arith) is.1 says

pub port_in : (text rest : List ℕ) (n e : ℕ) → (n < 256) × (text ≡ split_by 58 (decimal n) rest) → text ≡ from_fourth e → rest ≡ port_text e
port_in text rest n e is says =
    after_number 58 n (e / 65536 % 256) text rest (port_text e) (inr (omega arith)) is.0 (omega arith) is.1 says

-- an endpoint's text has no byte that is less than those of its parts
pub endpoint_apart : (byte e : ℕ) → byte < 46 → IsEndpoint e → Lacks byte (endpoint_text e)
endpoint_apart byte e less is =
    let bound = is.six_bytes in
    let number : (n : ℕ) → n < 2 ^ 64 → Lacks byte (decimal n) = λ n fits. lacks_decimal byte n fits (inl (omega arith)) in
    lacks_split byte 46 (decimal (e / 65536 / 16777216)) (from_second e) (λ same. omega arith) (number (e / 65536 / 16777216) (omega arith))
    (lacks_split byte 46 (decimal (e / 65536 / 65536 % 256)) (from_third e) (λ same. omega arith) (number (e / 65536 / 65536 % 256) (omega arith))
    (lacks_split byte 46 (decimal (e / 65536 / 256 % 256)) (from_fourth e) (λ same. omega arith) (number (e / 65536 / 256 % 256) (omega arith))
    (lacks_split byte 58 (decimal (e / 65536 % 256)) (port_text e) (λ same. omega arith) (number (e / 65536 % 256) (omega arith)) (number (e % 65536) (omega arith)))))

-- it is one word
pub endpoint_lacks : (e : ℕ) → IsEndpoint e → Lacks 32 (endpoint_text e)
endpoint_lacks e is = endpoint_apart 32 e (omega arith) is

-- An endpoint's text is that of no other

parted : (byte n m : ℕ) (rest after : List ℕ) → (byte < 48) ⊎ (57 < byte) → n < 2 ^ 64 → m < 2 ^ 64 → split_by byte (decimal n) rest ≡ split_by byte (decimal m) after → (n ≡ m) × (rest ≡ after)
parted byte n m rest after apart small lesser same =
    let parts = same_split byte (split_by byte (decimal n) rest) (decimal n) rest (decimal m) after (lacks_decimal byte n small apart) refl (lacks_decimal byte m lesser apart) same in
    (decimal_injective n m small lesser parts.0, parts.1)

by_parts : (n m : ℕ) → n < 2 ^ 48 → m < 2 ^ 48 → n / 65536 / 16777216 ≡ m / 65536 / 16777216 → n / 65536 / 65536 % 256 ≡ m / 65536 / 65536 % 256 → n / 65536 / 256 % 256 ≡ m / 65536 / 256 % 256 → n / 65536 % 256 ≡ m / 65536 % 256 → n % 65536 ≡ m % 65536 → n ≡ m
by_parts n m small lesser first second third fourth port = omega arith

pub same_endpoint : (d e : ℕ) → IsEndpoint d → IsEndpoint e → endpoint_text d ≡ endpoint_text e → d ≡ e
same_endpoint d e is other same =
    let small = is.six_bytes in
    let lesser = other.six_bytes in
    let first = parted 46 (d / 65536 / 16777216) (e / 65536 / 16777216) (from_second d) (from_second e) (inl (omega arith)) (omega arith) (omega arith) same in
    let second = parted 46 (d / 65536 / 65536 % 256) (e / 65536 / 65536 % 256) (from_third d) (from_third e) (inl (omega arith)) (omega arith) (omega arith) first.1 in
    let third = parted 46 (d / 65536 / 256 % 256) (e / 65536 / 256 % 256) (from_fourth d) (from_fourth e) (inl (omega arith)) (omega arith) (omega arith) second.1 in
    let fourth = parted 58 (d / 65536 % 256) (e / 65536 % 256) (port_text d) (port_text e) (inr (omega arith)) (omega arith) (omega arith) third.1 in
    let port = decimal_injective (d % 65536) (e % 65536) (omega arith) (omega arith) fourth.1 in
    by_parts d e (omega arith) (omega arith) first.0 second.0 third.0 fourth.0 port
