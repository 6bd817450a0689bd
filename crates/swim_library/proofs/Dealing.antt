-- Each place is that of some word.
use Rattle.std.proofs.Common.{◌≡◌, ℕ, zero, ◌+◌, ◌*◌, ◌/◌, ◌%◌, ◌^◌, ◌<◌, ◌≤◌, ap, ◌∙◌, arith}
use Rattle.std.proofs.Math.Nat.{div-lt_iff_lt-mul, mod-lt, mul-div_cancel}
use Rattle.std.proofs.lemmas.Nat.{div-add-mod'}
use Rattle.swim_library.specs.Deal.{place_by}

-- a product that is less than a place below it has the upper half that it should have
near : (product rest place other : ℕ) → product + rest ≡ other * 4294967296 + place → rest < place + 1 → place < 256 → product / 4294967296 ≡ other
near product rest place other sum small few = omega (arith, sum, small, few)

abbrev half : (place other : ℕ) → ℕ
half place other = (other * 4294967296 + place) / (place + 1)

half_fits : (place other : ℕ) → other ≤ place → place < 256 → half place other < 4294967296
half_fits place other within few = let some : zero < place + 1 = omega arith in
    (div-lt_iff_lt-mul some).1 (omega (arith, within, few))

pub reached : (place other : ℕ) → other ≤ place → place < 256 → (word : ℕ) × (word < 2 ^ 64) × (place_by word place ≡ other)
reached place other within few =
    let q = half place other in
    let all = other * 4294967296 + place in
    let some : zero < place + 1 = omega arith in
    let fits : q < 4294967296 = half_fits place other within few in
    let back : q * 4294967296 / 4294967296 ≡ q = mul-div_cancel q (omega arith) in
    let sum : q * (place + 1) + all % (place + 1) ≡ all = div-add-mod' all (place + 1) in
    let at : q * (place + 1) / 4294967296 ≡ other = near (q * (place + 1)) (all % (place + 1)) place other sum (mod-lt all some) few in
    (q * 4294967296, omega (arith, fits), ap (λ word. word * (place + 1) / 4294967296) back ∙ at)
