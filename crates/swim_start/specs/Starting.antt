-- What a member starts with.
use Rattle.std.specs.Prelude.{ℕ, ◌==◌, not, List, [], ◌∷◌, ◌++◌, filter}

-- each of these once, at its first place
abbrev pub once : List ℕ → List ℕ
once [] = []
once (x ∷ xs) = x ∷ filter (λ y. not (y == x)) (once xs)

-- those of these that are not the member itself
abbrev pub others : ℕ → List ℕ → List ℕ
others me peers = filter (λ peer. not (peer == me)) peers

-- whom a member joins: the listed peers and then the stored ones, each once, without itself
abbrev pub peers_to_join : ℕ → List ℕ → List ℕ → List ℕ
peers_to_join me listed stored = once (others me (listed ++ stored))
