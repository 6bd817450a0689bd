-- Deals, and numbers that are gone through: none stands there twice.
use Rattle.std.proofs.Common.{◌≡◌, ℕ, zero, suc, ◌+◌, ◌%◌, ◌<◌, ◌≤◌, ◌==◌, Bool, true, false, refl, sym, ◌∙◌, ap, List, [], ◌∷◌, map, length, Some, slice_get, take, get_or, ◌||◌, arith}
use Rattle.std.specs.List.{list_any, IsDistinct, AllByRecursion, range_with_len}
use Rattle.std.proofs.lemmas.Bool.{ne_eqb, eqb-true, eqb-false, false≢true}
use Rattle.std.proofs.lemmas.Option.{slice_get-get_or}
use Rattle.std.proofs.lemmas.List.{take_more, get_or-set_other}
use Rattle.std.proofs.lemmas.List.Folds.{list_any-append}
use Rattle.std.proofs.lemmas.Grind.{get_or-set_at}
use Rattle.std.proofs.Common.{set}
use Rattle.std.proofs.lemmas.Nat.{mod_below}
use Rattle.std.proofs.lemmas.List.FromFn.{length-map-range_with_len}
use Rattle.std.proofs.lemmas.List.Elements.{All-from_recursion}
use Rattle.swim_rules.specs.Deals.{IsDeal, deal_from}

-- Deals that go up cyclically

differs : (x y : ℕ) → x < y → y < x + 256 → x % 256 ≡ y % 256 → ⊥
differs x y a b e = omega arith

abbrev shifted : ℕ → ℕ → ℕ
shifted n i = (n + i) % 256

later : (n i low k : ℕ) → i < low → low + k ≤ i + 256 → AllByRecursion (λ y. (shifted n i == y) ≡ false) (map (shifted n) (range_with_len low k))
later n i low zero a b = tt
later n i low (suc k) a b =
    (ne_eqb (shifted n i) (shifted n low) (λ e. differs (n + i) (n + low) (omega arith) (omega arith) e), later n i (low + 1) k (omega arith) (omega arith))

once : (n low k : ℕ) → k ≤ 256 → IsDistinct (λ a b. a == b) (map (shifted n) (range_with_len low k))
unfolding IsDistinct
once n low zero b = tt
once n low (suc k) b = (later n low (low + 1) k (omega arith) (omega arith), once n (low + 1) k (omega arith))

below : (n low k : ℕ) → AllByRecursion (λ a. a < 256) (map (shifted n) (range_with_len low k))
below n low zero = tt
below n low (suc k) = (mod_below (n + low) 256 (omega arith), below n (low + 1) k)

pub cyclic-deal : (n : ℕ) → IsDeal (deal_from n)
cyclic-deal n = record {
  all = length-map-range_with_len (shifted n) 0 256;
  below = All-from_recursion (λ a. a < 256) (deal_from n) (below n 0 256);
  once = once n 0 256 (omega arith);
}

-- Numbers that are gone through

pub none-twice : IsDistinct (λ (x y : ℕ). x == y) []
unfolding IsDistinct
none-twice = tt

-- whoever stands among these is another
pub another : (x : ℕ) (names : List ℕ) (n y : ℕ) → AllByRecursion (λ z. (x == z) ≡ false) names → slice_get names n ≡ Some y → (x == y) ≡ false
another x [] n y a e = absurd (cc)
another x (z ∷ names) zero y a e = let same : z ≡ y = cc in ap (λ w. x == w) (sym same) ∙ a.0
another x (z ∷ names) (suc n) y a e = another x names n y a.1 e

-- one that was met before is there twice
pub met-again : (xs : List ℕ) (i : ℕ) → IsDistinct (λ x y. x == y) xs → i < length xs → list_any (λ m. get_or xs i 0 == m) (take i xs) ≡ true → ⊥
unfolding IsDistinct
met-again [] i h l e = absurd (omega arith)
met-again (x ∷ xs) zero h l e = false≢true e
met-again (x ∷ xs) (suc i) h l e = at (get_or xs i 0 == x) refl e (λ k. met-again xs i h.1 (omega arith) k)
  where
    at : (b : Bool) → (get_or xs i 0 == x) ≡ b → (b || list_any (λ m. get_or xs i 0 == m) (take i xs)) ≡ true → (list_any (λ m. get_or xs i 0 == m) (take i xs) ≡ true → ⊥) → ⊥
    at true f k g = eqb-false x (get_or xs i 0) (another x xs i (get_or xs i 0) h.0 (slice_get-get_or xs i 0 (omega arith))) (sym (eqb-true (get_or xs i 0) x f))
    at false f k g = g k

-- one more is seen
pub seen-next : (xs : List ℕ) (seen : List Bool) (i n : ℕ) → i < length xs → get_or xs i 0 < length seen → get_or seen n false ≡ list_any (λ m. n == m) (take i xs) → get_or (set seen (get_or xs i 0) true) n false ≡ list_any (λ m. n == m) (take (i + 1) xs)
seen-next xs seen i n l room h =
    at (n == get_or xs i 0) refl
    ∙ sym (list_any-append (λ m. n == m) (take i xs) (get_or xs i 0 ∷ []))
    ∙ ap (list_any (λ m. n == m)) (sym (take_more xs i 0 l))
  where
    with-none : (b : Bool) → b ≡ (b || false)
    with-none true = refl
    with-none false = refl

    with-one : (b : Bool) → true ≡ (b || true)
    with-one true = refl
    with-one false = refl

    at : (b : Bool) → (n == get_or xs i 0) ≡ b → get_or (set seen (get_or xs i 0) true) n false ≡ (list_any (λ m. n == m) (take i xs) || ((n == get_or xs i 0) || false))
    at true e = get_or-set_at seen (get_or xs i 0) n true false (eqb-true n (get_or xs i 0) e) room ∙ with-one (list_any (λ m. n == m) (take i xs)) ∙ ap (λ c. list_any (λ m. n == m) (take i xs) || (c || false)) (sym e)
    at false e = get_or-set_other seen (get_or xs i 0) n true false (eqb-false n (get_or xs i 0) e) ∙ h ∙ with-none (list_any (λ m. n == m) (take i xs)) ∙ ap (λ c. list_any (λ m. n == m) (take i xs) || (c || false)) (sym e)
