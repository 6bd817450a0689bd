-- Texts that are added one after another, and how long they are at the most.
use Rattle.std.proofs.Common.{◌≡◌, ℕ, ◌+◌, ◌/◌, ◌%◌, ◌^◌, ◌<◌, ◌≤◌, List, [], ◌∷◌, ◌++◌, length, append_assoc, sym, ap, ◌∙◌, arith, length-append}
use Rattle.std.specs.Prelude.{Result, Ok, Err, OnOk, IsOk}
use Rattle.std.specs.Fmt.{decimal}
use Rattle.std.proofs.lemmas.Fmt.{decimal_digit, decimal_step, length-decimal-le}
use Rattle.swim_wire.specs.Text.{dotted, endpoint_text}

pub gone_well : {A E : Type 0} (r : Result A E) (P : Type 0) → OnOk r P → IsOk r → P
gone_well (Ok x) P on is = on
gone_well (Err e) P on is = cc

pub digit_text : (c digit : ℕ) → c ≡ 48 + digit → digit < 10 → c ∷ [] ≡ decimal digit
digit_text c digit is one = ap (λ b. b ∷ []) is ∙ sym (decimal_digit digit one)

-- a text more behind another one
pub two : (old mid new a b : List ℕ) → mid ≡ old ++ a → new ≡ mid ++ b → new ≡ old ++ (a ++ b)
two old mid new a b one then = then ∙ ap (λ w. w ++ b) one ∙ append_assoc old a b

pub endpoint_parts : (e a : ℕ) → a ≡ e / 65536 → a < 2 ^ 32 → dotted (a / 16777216 % 256) (a / 65536 % 256) (a / 256 % 256) (a % 256) (e % 65536) ≡ endpoint_text e
endpoint_parts e a is fits =
    let first : a / 16777216 % 256 ≡ e / 65536 / 16777216 = omega arith in
    cc

-- the parts of an endpoint
pub dotted_parts : (a b c d port : ℕ) → (decimal a ++ 46 ∷ []) ++ ((decimal b ++ 46 ∷ []) ++ ((decimal c ++ 46 ∷ []) ++ ((decimal d ++ 58 ∷ []) ++ decimal port))) ≡ dotted a b c d port
dotted_parts a b c d port = simp append_assoc

-- the digits of a number that has several
pub decimal_more : (n : ℕ) → 10 ≤ n → n < 2 ^ 64 → decimal n ≡ decimal (n / 10) ++ decimal (n % 10)
decimal_more n many fits =
    let one : n % 10 < 10 = omega arith in
    decimal_step n many fits ∙ ap (λ d. decimal (n / 10) ++ d) (sym (decimal_digit (n % 10) one))

pub length-decimal_more : (n : ℕ) → 10 ≤ n → n < 2 ^ 64 → length (decimal n) ≡ length (decimal (n / 10)) + 1
length-decimal_more n many fits = ap length (decimal_step n many fits) ∙ length-append (decimal (n / 10)) _

pub length-digit : (n : ℕ) → n < 10 → length (decimal n) ≡ 1
length-digit n one = ap length (decimal_digit n one)

pub number_short : (n : ℕ) → n < 2 ^ 64 → length (decimal n) ≤ 20
number_short n fits = length-decimal-le 20 n (omega arith) (omega arith) fits

pub port_short : (n : ℕ) → n < 2 ^ 16 → length (decimal n) ≤ 5
port_short n fits = length-decimal-le 5 n (omega arith) (omega arith) (omega arith)

pub byte_short : (n : ℕ) → n < 2 ^ 8 → length (decimal n) ≤ 3
byte_short n fits = length-decimal-le 3 n (omega arith) (omega arith) (omega arith)
