-- What a clause on an `Option` says once the call's `None` became an error, and what follows from it.
use Rattle.std.proofs.Common.{◌≡◌, ℕ, List, Option, Some, None, Ok, Err, subst}
use Rattle.std.specs.Prelude.{IfSome, IfNone}
use Rattle.std.specs.Borrow.{Bor}
use Rattle.std.specs.Option.{ok_or}
use Rattle.swim_script.specs.declared.fault.FaultKind.{FaultKind}
use Rattle.swim_words.specs.Words.{Lacks, spaced}

pub absent : {T E P : Type 0} (o : Option T) (e x : E) → ok_or o e ≡ Err x → IfNone o P → (x ≡ e) × P
absent None e x is holds = ((cc), holds)
absent (Some y) e x is holds = absurd (cc)

-- the cut of a text at its first space, where there had to be one
pub cut_of : (text : List ℕ) (o : Option (Bor (List ℕ) × Bor (List ℕ))) (e : FaultKind) (p : Bor (List ℕ) × Bor (List ℕ)) → ok_or o e ≡ Ok p → IfSome o (λ parts. text ≡ spaced parts.0.now parts.1.now) → IfSome o (λ parts. Lacks 32 parts.0.now) → (text ≡ spaced p.0.now p.1.now) × Lacks 32 p.0.now
cut_of text None e p is parts first = absurd (cc)
cut_of text (Some q) e p is parts first =
    let same : q ≡ p = cc in
    subst (λ (r : Bor (List ℕ) × Bor (List ℕ)). (text ≡ spaced r.0.now r.1.now) × Lacks 32 r.0.now) same (parts, first)
