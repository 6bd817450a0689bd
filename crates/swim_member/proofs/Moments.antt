-- How many ticks of a period are over: it goes on by one, and begins anew where the period ends.
use Rattle.std.proofs.Common.{◌≡◌, ◌≢◌, ℕ, ◌+◌, ◌%◌, ◌==◌, ◌<◌, Bool, true, false, refl, suc, sym, ◌∙◌, ap, add-one, arith}
use Rattle.std.proofs.Math.Nat.{suc-mod, mod_self, mod-eq_of_lt}
use Rattle.std.proofs.lemmas.Bool.{eqb-true, eqb-false, eq-eqb, ne_eqb}
use Rattle.std.proofs.lemmas.Nat.{mod_below}

next : (t p m : ℕ) → m ≡ t % p → suc m % p ≡ (t + 1) % p
next t p m is = ap (λ n. suc n % p) is ∙ sym (suc-mod t p) ∙ ap (λ n. n % p) (sym (add-one t))

-- the period ends
pub next-zero : (t p m : ℕ) → m ≡ t % p → m + 1 ≡ p → 0 ≡ (t + 1) % p
next-zero t p m is ends = sym (mod_self p) ∙ ap (λ n. n % p) (sym ends ∙ add-one m) ∙ next t p m is

-- it goes on
pub next-one : (t p m : ℕ) → 0 < p → m ≡ t % p → m + 1 ≢ p → m + 1 ≡ (t + 1) % p
next-one t p m low is within =
    let below : t % p < p = mod_below t p low in
    let less : suc m < p = omega arith in
    add-one m ∙ sym (mod-eq_of_lt less) ∙ next t p m is

pub next-ends : (t p m : ℕ) → 0 < p → m ≡ t % p → (m + 1 == p) ≡ ((t + 1) % p == 0)
next-ends t p m low is = at (m + 1 == p) refl
  where
    at : (b : Bool) → (m + 1 == p) ≡ b → b ≡ ((t + 1) % p == 0)
    at true h = sym (eq-eqb ((t + 1) % p) 0 (sym (next-zero t p m is (eqb-true (m + 1) p h))))
    at false h =
        let more : m + 1 ≡ (t + 1) % p = next-one t p m low is (eqb-false (m + 1) p h) in
        sym (ne_eqb ((t + 1) % p) 0 (λ e. omega arith))
