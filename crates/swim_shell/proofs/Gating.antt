-- Turns that a gate allowed, put together.
use Rattle.std.proofs.Common.{◌≡◌, ℕ, zero, suc, ◌+◌, List, [], ◌∷◌, ◌++◌, length, refl, ap, sym, subst, ◌∙◌, arith, length-append}
use Rattle.std.proofs.lemmas.List.{append-nil}
use Rattle.swim_shell.specs.declared.gate.Turn.{Turn}
use Rattle.swim_shell.specs.declared.gate.Turn.TheVariants.{Go, Stop}
use Rattle.swim_shell.specs.Gates.{turns_of_go, Went, Halted}
use Rattle.std.proofs.lemmas.List.{append_assoc}

goes-snoc : (n : ℕ) → turns_of_go n ++ Go ∷ [] ≡ turns_of_go (suc n)
goes-snoc zero = refl
goes-snoc (suc n) = ap (λ w. Go ∷ w) (goes-snoc n)

pub went_none : (shows : Type 0) (t : List Turn) → Went shows t t 0
went_none shows t = record { told = λ _. sym (append-nil t) }

pub went_more : (shows : Type 0) (t u v : List Turn) (n : ℕ) → Went shows t u n → (shows → v ≡ u ++ Go ∷ []) → Went shows t v (n + 1)
went_more shows t u v n w go =
    let one : n + 1 ≡ suc n = omega arith in
    subst (Went shows t v) (sym one) (record { told = λ i. go i ∙ (ap (λ l. l ++ Go ∷ []) (w.told i) ∙ (append_assoc t (turns_of_go n) (Go ∷ []) ∙ ap (λ l. t ++ l) (goes-snoc n))) })

-- one turn more, as many as a list that is one longer
pub went_along : {A : Type 0} (shows : Type 0) (t u v : List Turn) (xs : List A) (x : A) → Went shows t u (length xs) → (shows → v ≡ u ++ Go ∷ []) → Went shows t v (length (xs ++ x ∷ []))
went_along shows t u v xs x w go =
    let longer : length (xs ++ x ∷ []) ≡ length xs + 1 = length-append xs (x ∷ []) in
    subst (Went shows t v) (sym longer) (went_more shows t u v (length xs) w go)

pub halts : (shows : Type 0) (t u v : List Turn) (n : ℕ) → Went shows t u n → (shows → v ≡ u ++ Stop ∷ []) → Halted shows t v n
halts shows t u v n w stop = record { told = λ i. stop i ∙ (ap (λ l. l ++ Stop ∷ []) (w.told i) ∙ append_assoc t (turns_of_go n) (Stop ∷ [])) }
