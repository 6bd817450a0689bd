-- What became of datagrams, in two parts.
use Rattle.std.proofs.Common.{◌≡◌, ℕ, ◌+◌, Bool, true, false, List, [], ◌∷◌, ◌++◌, refl, ap, arith, if◌then◌else◌}
use Rattle.swim_node.specs.Link.{Fate, all_of, kept_of, lost_of}

pub all_of-append : (xs ys : List Fate) → all_of (xs ++ ys) ≡ all_of xs ++ all_of ys
all_of-append [] ys = refl
all_of-append (x ∷ xs) ys = ap (λ w. x.datagram ∷ w) (all_of-append xs ys)

kept_one : (taken : Bool) (d : ℕ × List ℕ) (xs ys zs : List (ℕ × List ℕ)) → zs ≡ xs ++ ys → (if taken then d ∷ zs else zs) ≡ (if taken then d ∷ xs else xs) ++ ys
kept_one true d xs ys zs e = ap (λ w. d ∷ w) e
kept_one false d xs ys zs e = e

pub kept_of-append : (xs ys : List Fate) → kept_of (xs ++ ys) ≡ kept_of xs ++ kept_of ys
kept_of-append [] ys = refl
kept_of-append (x ∷ xs) ys = kept_one x.taken x.datagram (kept_of xs) (kept_of ys) (kept_of (xs ++ ys)) (kept_of-append xs ys)

pub lost_of-append : (xs ys : List Fate) → lost_of (xs ++ ys) ≡ lost_of xs + lost_of ys
lost_of-append [] ys = omega arith
lost_of-append (x ∷ xs) ys = omega (arith, lost_of-append xs ys)
