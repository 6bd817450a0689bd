-- The digits of a number, one after the other.
use Rattle.std.proofs.Common.{◌≡◌, ℕ, ◌+◌, ◌*◌, ◌/◌, ◌%◌, ◌^◌, ◌<◌, ◌≤◌, ◌⊎◌, List, [], ◌∷◌, ◌++◌, length, get_or, take, refl, sym, ap, ◌∙◌, arith, add-one, subst, inl, inr}
use Rattle.std.specs.Prelude.{◌≢◌}
use Rattle.std.specs.Fmt.{decimal}
use Rattle.std.specs.Int.{IsInRange}
use Rattle.std.specs.Str.Parse.{AllDigits, digits_value}
use Rattle.std.proofs.lemmas.Bool.{cases_eq}
use Rattle.std.proofs.lemmas.Fmt.{decimal_step, decimal_digit, decimal_nonempty, decimal_injective, first_decimal, digits_decimal, digits_value-decimal}
use Rattle.std.proofs.lemmas.Int.Digits.{digits_value_more}
use Rattle.std.proofs.lemmas.List.{take_more, get_or-take}
use Rattle.std.proofs.lemmas.List.Elements.{All-from_get_or}
use Rattle.std.proofs.lemmas.Str.{digit_value_digit}
use Rattle.std.proofs.lemmas.Str.Parse.{IsNumeralModel, numerals_by_value, tells_digits, digit_at, digits_value-take-le}
use Rattle.swim_words.specs.Words.{No, Lacks, SaysNumber}
use Rattle.swim_words.proofs.Splits.{differs}

first_byte : (text others : List ℕ) (first : ℕ) → text ≡ first ∷ others → get_or text 0 0 ≡ first
first_byte text others first is = ap (λ (l : List ℕ). get_or l 0 0) is

next_byte : (text others : List ℕ) (first i : ℕ) → text ≡ first ∷ others → get_or text (i + 1) 0 ≡ get_or others i 0
next_byte text others first i is = ap (λ (l : List ℕ). get_or l (i + 1) 0) is ∙ rw add-one refl

within : (text others : List ℕ) (first i : ℕ) → text ≡ first ∷ others → i < length others → i + 1 < length text
within text others first i is lt = omega (arith, ap length is)

pub first_digit : (text others : List ℕ) (first n : ℕ) → text ≡ first ∷ others → n < 10 → first ≡ 48 + n → take (0 + 1) text ≡ decimal n
first_digit text others first n is small byte = ap (λ (l : List ℕ). take 1 l) is ∙ ap (λ (b : ℕ). b ∷ []) byte ∙ sym (decimal_digit n small)

pub one_more : (text others : List ℕ) (first i n d m : ℕ) → text ≡ first ∷ others → i < length others → take (i + 1) text ≡ decimal n → 0 < n → d < 10 → get_or others i 0 ≡ 48 + d → m ≡ n * 10 + d → m < 2 ^ 64 → take (i + 1 + 1) text ≡ decimal m
one_more text others first i n d m is lt sofar pos small byte next fits =
    let at : get_or text (i + 1) 0 ≡ 48 + d = next_byte text others first i is ∙ byte in
    let front : m / 10 ≡ n = omega arith in
    let last : m % 10 ≡ d = omega arith in
    take_more text (i + 1) 0 (within text others first i is lt) ∙ (λ k. sofar k ++ (at k ∷ [])) ∙ sym (decimal_step m (omega arith) fits ∙ (λ k. decimal (front k) ++ ((48 + last k) ∷ [])))

own : IsNumeralModel (AllDigits 10) (digits_value 10)
own = numerals_by_value (AllDigits 10) tells_digits

-- each byte of a number's text is a digit
digit_in : (text : List ℕ) (n i : ℕ) → n < 2 ^ 64 → text ≡ decimal n → i < length text → IsInRange 48 57 (get_or text i 0)
digit_in text n i fits is lt =
    digit_at text i (subst (AllDigits 10) (sym is) (digits_decimal own n fits)) lt

pub lacks_decimal : (byte n : ℕ) → n < 2 ^ 64 → (byte < 48) ⊎ (57 < byte) → Lacks byte (decimal n)
lacks_decimal byte n fits out =
    All-from_get_or (differs byte) (decimal n) 0 (λ i lt e. let digit = digit_in (decimal n) n i fits refl lt in omega arith)

pub not_empty : (text : List ℕ) (m : ℕ) → length text ≡ 0 → m < 2 ^ 64 → text ≢ decimal m
not_empty text m none fits says = omega (arith, decimal_nonempty m fits, ap length says)

pub not_first : (text others : List ℕ) (first m : ℕ) → text ≡ first ∷ others → (first < 48) ⊎ (57 < first) → m < 2 ^ 64 → text ≢ decimal m
not_first text others first m is out fits says =
    let digit = digit_in text m 0 fits says (omega (arith, ap length is)) in
    let at = first_byte text others first is in
    omega arith

pub not_next : (text others : List ℕ) (first i m : ℕ) → text ≡ first ∷ others → i < length others → (get_or others i 0 < 48) ⊎ (57 < get_or others i 0) → m < 2 ^ 64 → text ≢ decimal m
not_next text others first i m is lt out fits says =
    let digit = digit_in text m (i + 1) fits says (within text others first i is lt) in
    let at = next_byte text others first i is in
    omega arith

-- no number's digits begin with those of 0 and go on
pub not_zero : (text others : List ℕ) (first i n m : ℕ) → text ≡ first ∷ others → i < length others → take (i + 1) text ≡ decimal n → n ≡ 0 → m < 2 ^ 64 → text ≢ decimal m
not_zero text others first i n m is lt sofar zero fits says =
    let more = within text others first i is lt in
    let none : decimal n ≡ 48 ∷ [] = ap decimal zero ∙ decimal_digit 0 (omega arith) in
    let first : get_or text 0 0 ≡ 48 = sym (get_or-take (i + 1) text 0 0 (omega arith)) ∙ ap (λ (l : List ℕ). get_or l 0 0) (sofar ∙ none) in
    elim (cases_eq m 0) [
      | inl nothing ↦
          let alone : length text ≡ 1 = ap length (says ∙ ap decimal nothing ∙ decimal_digit 0 (omega arith)) in
          omega arith
      | inr other ↦
          let above = first_decimal m (omega arith) fits in
          let same : get_or text 0 0 ≡ get_or (decimal m) 0 0 = ap (λ (l : List ℕ). get_or l 0 0) says in
          omega arith
    ]

-- a number whose digits begin with those of n and go on is ten times n and its next digit, or greater
pub at_least : (text others : List ℕ) (first i n m : ℕ) → text ≡ first ∷ others → i < length others → take (i + 1) text ≡ decimal n → n < 2 ^ 64 → m < 2 ^ 64 → text ≡ decimal m → (n * 10 + get_or others i 0 ≤ m + 48) × (n * 10 ≤ m)
at_least text others first i n m is lt sofar small fits says =
    let more = within text others first i is lt in
    let at = next_byte text others first i is in
    let whole : digits_value 10 text ≡ m = ap (digits_value 10) says ∙ digits_value-decimal own m fits in
    let front : digits_value 10 (take (i + 1) text) ≡ n = ap (digits_value 10) sofar ∙ digits_value-decimal own n small in
    let step = digits_value_more 10 text (i + 1) more in
    let le = digits_value-take-le 10 text (i + 1 + 1) (omega arith) in
    let digit = digit_in text m (i + 1) fits says more in
    let value = digit_value_digit (get_or text (i + 1) 0) digit in
    (omega arith, omega arith)

-- the text of a number outside the bounds is none within them
pub not_within : (text : List ℕ) (least most n : ℕ) → most < 2 ^ 64 → n < 2 ^ 64 → text ≡ decimal n → (least ≤ n → n ≤ most → ⊥) → No (SaysNumber text least most)
not_within text least most n fits small is out m says =
    let same = decimal_injective m n (omega arith) small (sym says.says ∙ is) in
    out (omega arith) (omega arith)
