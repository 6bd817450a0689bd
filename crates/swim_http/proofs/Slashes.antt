-- What a text has from its first slash on.
use Rattle.std.proofs.Common.{◌≡◌, ℕ, List, [], ◌∷◌, ◌++◌, length, refl, ap, ◌∙◌}
use Rattle.std.specs.Prelude.{◌≢◌, if◌then◌else◌, drop}
use Rattle.std.proofs.lemmas.Bool.{ne_eqb}
use Rattle.std.proofs.lemmas.List.{drop_at}
use Rattle.std.proofs.lemmas.List.Elements.{All-head, All-tail}
use Rattle.swim_words.specs.Words.{Lacks, split_by}
use Rattle.swim_http.specs.Requests.{from_slash}

abbrev is_other : ℕ → Type 0
is_other byte = byte ≢ 47

-- what comes before the slash goes
one_less : (byte : ℕ) (text : List ℕ) → byte ≢ 47 → from_slash (byte ∷ text) ≡ from_slash text
one_less byte text other = ap (λ is. if is then byte ∷ text else from_slash text) (ne_eqb byte 47 other)

pub from_slash-split : (host rest : List ℕ) → Lacks 47 host → from_slash (split_by 47 host rest) ≡ 47 ∷ rest
from_slash-split [] rest lacks = refl
from_slash-split (byte ∷ host) rest lacks =
    one_less byte (split_by 47 host rest) (All-head is_other byte host lacks)
    ∙ from_slash-split host rest (All-tail is_other byte host lacks)

pub from_slash-none : (text : List ℕ) → Lacks 47 text → from_slash text ≡ 47 ∷ []
from_slash-none [] lacks = refl
from_slash-none (byte ∷ text) lacks =
    one_less byte text (All-head is_other byte text lacks)
    ∙ from_slash-none text (All-tail is_other byte text lacks)

pub drop-split : (host rest : List ℕ) → drop (length host) (split_by 47 host rest) ≡ 47 ∷ rest
drop-split host rest = drop_at host (47 ∷ rest) (length host) refl
