-- Bodies of version 1.
use Rattle.std.proofs.Common.{◌&&◌, nat_le, ◌≡◌, ℕ, ◌-◌, ◌^◌, ◌≤◌, true, false, ◌==◌, List, [], length, refl, sym, ◌∙◌, ap, arith, Some, None}
use Rattle.std.proofs.lemmas.Bool.{and_from, and_parts, eq-eqb, ne_eqb, le-leb, leb-true}
use Rattle.byteorder.specs.Endian.{big_number, big_bytes}
use Rattle.byteorder.specs.Numbers.{big_number-reads_back}
use Rattle.swim_state.specs.First.{alone, body_alone, ceiling_in, is_good_alone, saved_alone, version_1}
use Rattle.swim_state.specs.Layout.{bytes_from}
use Rattle.swim_state.specs.File.{slot_reading, said}
use Rattle.swim_state.specs.declared.layout.Reading.TheVariants.{Holds}

-- an open gate over a good body
pub open_reads : (bytes : List ℕ) → is_good_alone bytes ≡ true → slot_reading version_1 0xA5 bytes ≡ Holds (saved_alone bytes)
open_reads bytes good = rw good

pub ceiling_back : (ceiling : ℕ) → ceiling ≤ 2 ^ 62 → ceiling_in (body_alone ceiling) ≡ ceiling
unfolding ceiling_in body_alone
ceiling_back ceiling le = big_number-reads_back 8 ceiling (big_bytes 8 (2 ^ 64 - 1 - ceiling)) (omega (arith, le))

pub body_good : (n : ℕ) → n ≤ 2 ^ 62 → is_good_alone (body_alone n) ≡ true
unfolding is_good_alone body_alone
body_good n le =
    let high = ceiling_back n le in
    let low : big_number 8 (bytes_from (body_alone n) 8 8) ≡ 2 ^ 64 - 1 - n = big_number-reads_back 8 (2 ^ 64 - 1 - n) [] (omega arith) in
    and_from _ _ (eq-eqb _ _ (low ∙ ap (λ m. 2 ^ 64 - 1 - m) (sym high))) (le-leb _ _ (omega (arith, high, le)))

pub body_reads : (n : ℕ) → n ≤ 2 ^ 62 → slot_reading version_1 0xA5 (body_alone n) ≡ Holds (alone n)
body_reads n le = open_reads (body_alone n) (body_good n le) ∙ ap (λ m. Holds (alone m)) (ceiling_back n le)

pub length-body : (n : ℕ) → length (body_alone n) ≡ 16
unfolding body_alone
length-body n = refl

pub good_bounded : (bytes : List ℕ) → is_good_alone bytes ≡ true → ceiling_in bytes ≤ 2 ^ 62
unfolding is_good_alone
good_bounded bytes good = leb-true _ _ ((and_parts _ _ good).1)

-- the two tests of a body, one after the other
pub good_then : (bytes : List ℕ) (high low : ℕ) → high ≡ ceiling_in bytes → low ≡ big_number 8 (bytes_from bytes 8 8) → low ≡ 2 ^ 64 - 1 - high → nat_le high (2 ^ 62) ≡ is_good_alone bytes
unfolding is_good_alone
good_then bytes high low high_is low_is agrees =
    let test : (big_number 8 (bytes_from bytes 8 8) == 2 ^ 64 - 1 - ceiling_in bytes) ≡ true = eq-eqb _ _ (sym low_is ∙ agrees ∙ ap (λ m. 2 ^ 64 - 1 - m) high_is) in
    ap (λ m. nat_le m (2 ^ 62)) high_is ∙ sym (ap (λ t. t && nat_le (ceiling_in bytes) (2 ^ 62)) test)

pub good_else : (bytes : List ℕ) (high low : ℕ) → high ≡ ceiling_in bytes → low ≡ big_number 8 (bytes_from bytes 8 8) → (low ≡ 2 ^ 64 - 1 - high → ⊥) → false ≡ is_good_alone bytes
unfolding is_good_alone
good_else bytes high low high_is low_is differs =
    let test : (big_number 8 (bytes_from bytes 8 8) == 2 ^ 64 - 1 - ceiling_in bytes) ≡ false = ne_eqb _ _ (λ same. differs (low_is ∙ same ∙ ap (λ m. 2 ^ 64 - 1 - m) (sym high_is))) in
    sym (ap (λ t. t && nat_le (ceiling_in bytes) (2 ^ 62)) test)

pub said_good : (bytes : List ℕ) → is_good_alone bytes ≡ true → said version_1 bytes ≡ Some (saved_alone bytes)
said_good bytes good = rw good

pub said_bad : (bytes : List ℕ) → is_good_alone bytes ≡ false → said version_1 bytes ≡ None
said_bad bytes bad = rw bad
