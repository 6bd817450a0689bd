-- The path of a target ends before its first question mark.
use Rattle.std.proofs.Common.{◌≡◌, ℕ, List, [], ◌∷◌, refl, ap, ◌∙◌}
use Rattle.std.specs.Prelude.{◌≢◌, if◌then◌else◌}
use Rattle.std.proofs.lemmas.Bool.{ne_eqb}
use Rattle.std.proofs.lemmas.List.Elements.{All-head, All-tail}
use Rattle.swim_words.specs.Words.{Lacks, split_by}
use Rattle.swim_http.specs.Requests.{path_in}

abbrev is_other : ℕ → Type 0
is_other byte = byte ≢ 63

-- what comes before the mark stays
one_more : (byte : ℕ) (target : List ℕ) → byte ≢ 63 → path_in (byte ∷ target) ≡ byte ∷ path_in target
one_more byte target other = ap (λ is. if is then [] else byte ∷ path_in target) (ne_eqb byte 63 other)

pub path_in-split : (path rest : List ℕ) → Lacks 63 path → path_in (split_by 63 path rest) ≡ path
path_in-split [] rest lacks = refl
path_in-split (byte ∷ path) rest lacks =
    one_more byte (split_by 63 path rest) (All-head is_other byte path lacks)
    ∙ ap (λ (xs : List ℕ). byte ∷ xs) (path_in-split path rest (All-tail is_other byte path lacks))

pub path_in-whole : (target : List ℕ) → Lacks 63 target → path_in target ≡ target
path_in-whole [] lacks = refl
path_in-whole (byte ∷ target) lacks =
    one_more byte target (All-head is_other byte target lacks)
    ∙ ap (λ (xs : List ℕ). byte ∷ xs) (path_in-whole target (All-tail is_other byte target lacks))
