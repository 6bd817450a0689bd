-- Passes that fit the journal, where none is odd.
use Rattle.std.proofs.Common.{◌≡◌, ℕ, ◌+◌, Bool, true, false, List, [], ◌∷◌, refl, ap, sym, subst, ◌∙◌, arith, if◌then◌else◌}
use Rattle.swim_node.specs.declared.entry.Entry.{Entry}
use Rattle.swim_shared.specs.Odd.{is_in_step, odd_of, AllBegin, Begins}
use Rattle.swim_shared.specs.Passes.{PassView}

-- the pass fits the journal
abbrev pub Fits : List Entry → PassView → Type 0
Fits journal p = (is_in_step p journal ≡ true) × Begins journal p

step_or : (b : Bool) (n : ℕ) → (if b then 0 else 1) + n ≡ 0 → (b ≡ true) × (n ≡ 0)
step_or true n h = let none : ◌≡◌ {A = ℕ} (if true then 0 else 1) 0 = refl in (refl, omega (arith, none, h))
step_or false n h = let one : ◌≡◌ {A = ℕ} (if false then 0 else 1) 1 = refl in absurd (omega (arith, one, h))

-- where no pass is odd, each of four fits
pub record AllFit (journal : List Entry) (a b c d : PassView) : Type 0 where
  pub first : Fits journal a
  pub second : Fits journal b
  pub third : Fits journal c
  pub fourth : Fits journal d

four_fit : (journal : List Entry) (a b c d : PassView) → odd_of journal (a ∷ b ∷ c ∷ d ∷ []) [] ≡ 0 → AllBegin journal (a ∷ b ∷ c ∷ d ∷ []) → AllFit journal a b c d
four_fit journal a b c d none begin =
    let odd : (p : PassView) → ℕ = λ p. if is_in_step p journal then 0 else 1 in
    let one = step_or (is_in_step a journal) (odd b + (odd c + (odd d + 0))) (omega (arith, none)) in
    let two = step_or (is_in_step b journal) (odd c + (odd d + 0)) one.1 in
    let three = step_or (is_in_step c journal) (odd d + 0) two.1 in
    let four = step_or (is_in_step d journal) 0 three.1 in
    record { first = (one.0, begin.0); second = (two.0, begin.1.0); third = (three.0, begin.1.1.0); fourth = (four.0, begin.1.1.1.0) }

pub all_fit : (journal : List Entry) (a b c d : PassView) (all : List PassView) (odd : ℕ) → all ≡ a ∷ b ∷ c ∷ d ∷ [] → odd ≡ odd_of journal all [] → AllBegin journal all → odd ≡ 0 → AllFit journal a b c d
all_fit journal a b c d all odd is sum begin none = four_fit journal a b c d (ap (λ w. odd_of journal w []) (sym is) ∙ sym sum ∙ none) (subst (AllBegin journal) is begin)
