-- Texts that are added one after the other.
use Rattle.std.proofs.Common.{◌≡◌, ℕ, List, [], ◌∷◌, ◌++◌, ap, sym, ◌∙◌, append_assoc}
use Rattle.std.specs.Prelude.{flat_map}
use Rattle.std.proofs.lemmas.List.{flat_map_more}

-- what is added to a text, and then to the longer one, is added to the first
pub and_then : (old a middle b new : List ℕ) → middle ≡ old ++ a → new ≡ middle ++ b → new ≡ old ++ (a ++ b)
and_then old a middle b new one other =
    other ∙ ap (λ (text : List ℕ). text ++ b) one ∙ append_assoc old a b

-- what one more of a list adds, behind what was added for those before it
pub more_written : {X : Type 0} (f : X → List ℕ) (old text new : List ℕ) (xs more : List X) (x : X) → text ≡ old ++ flat_map f xs → new ≡ text ++ f x → more ≡ xs ++ x ∷ [] → new ≡ old ++ flat_map f more
more_written {X = X} f old text new xs more x so_far is next =
    is
    ∙ ap (λ (w : List ℕ). w ++ f x) so_far
    ∙ flat_map_more f old xs x
    ∙ ap (λ (w : List X). old ++ flat_map f w) (sym next)
