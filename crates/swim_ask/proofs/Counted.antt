-- Counts, one after the other, are one text, and that text is read in one way.
use Rattle.std.proofs.Common.{◌≡◌, ◌+◌, ◌^◌, ◌<◌, ◌≤◌, ◌⊎◌, ℕ, List, [], ◌∷◌, ◌++◌, length, get_or, take, drop, set, append_assoc, refl, sym, ◌∙◌, ap, subst, add-one, arith}
use Rattle.std.proofs.lemmas.List.{append-nil, drop_all, take_more_set}
use Rattle.std.proofs.lemmas.List.Elements.{All-get_or}
use Rattle.std.proofs.Math.Seq.{drop-cons, take-length}
use Rattle.std.specs.Prelude.{◌≢◌}
use Rattle.swim_words.specs.Words.{Lacks}
use Rattle.swim_ask.specs.Machinery.Counts.{SaysCounts, counts_from}
use Rattle.swim_ask.proofs.Counts.{count_text, same_count}

-- the counts that were read, and those of what is left, whatever they are, are all
abbrev pub ReadSoFar : (ℕ → List ℕ × ℕ) → List ℕ → List ℕ → List ℕ → ℕ → Type 0
ReadSoFar at text left values place = (more : List ℕ) → left ≡ counts_from at place more → text ≡ counts_from at 0 (take place values ++ more)

-- one count more was read
pub one_read : (at : ℕ → List ℕ × ℕ) (text left rest name values : List ℕ) (end place count : ℕ) → place < length values → ReadSoFar at text left values place → left ≡ count_text name count end rest → name ≡ (at place).0 → end ≡ (at place).1 → ReadSoFar at text rest (set values place count) (place + 1)
one_read at text left rest name values end place count less so_far read is ends more says =
    let now : left ≡ counts_from at place (count ∷ more) =
    read
    ∙ ap (λ w. count_text w count end rest) is
    ∙ ap (λ byte. count_text (at place).0 count byte rest) ends
    ∙ ap (λ w. count_text (at place).0 count (at place).1 w) says in
    so_far (count ∷ more) now
    ∙ ap (λ w. counts_from at 0 w) (sym (ap (λ w. w ++ more) (take_more_set values place count less) ∙ append_assoc (take place values) (count ∷ []) more))

-- all were read, and nothing is left
pub all_read : (at : ℕ → List ℕ × ℕ) (text left values : List ℕ) (place : ℕ) → place ≡ length values → left ≡ [] → ReadSoFar at text left values place → text ≡ counts_from at 0 values
all_read at text left values place whole end so_far =
    so_far [] end ∙ ap (λ w. counts_from at 0 w) (append-nil (take place values) ∙ ap (λ n. take n values) whole ∙ take-length values)

-- what is left of all counts that the text may say, where so many were read
abbrev pub LeftOf : (ℕ → List ℕ × ℕ) → ℕ → List ℕ → List ℕ → ℕ → Type 0
LeftOf at many text left place = (values : List ℕ) → SaysCounts at many text values → left ≡ counts_from at place (drop place values)

-- each name is one word, and no digit ends a count
abbrev pub AreNames : (ℕ → List ℕ × ℕ) → Type 0
AreNames at = (place : ℕ) → Lacks 32 (at place).0 × (((at place).1 < 48) ⊎ (57 < (at place).1))

-- the element at a place, and those after it
pub from_place : (values : List ℕ) (place : ℕ) → place < length values → drop place values ≡ get_or values place 0 ∷ drop (place + 1) values
from_place values place less = rw (add-one, drop-cons values place 0) refl

-- the count at a place, and those after it
count_left : (at : ℕ → List ℕ × ℕ) (values : List ℕ) (place : ℕ) → place < length values → counts_from at place (drop place values) ≡ count_text (at place).0 (get_or values place 0) (at place).1 (counts_from at (place + 1) (drop (place + 1) values))
count_left at values place less = ap (λ w. counts_from at place w) (from_place values place less)

-- what is left begins with the count at this place
count_said : (at : ℕ → List ℕ × ℕ) (text left values name : List ℕ) (many end place : ℕ) → place < many → LeftOf at many text left place → name ≡ (at place).0 → end ≡ (at place).1 → SaysCounts at many text values → (get_or values place 0 < 2 ^ 64) × (left ≡ count_text name (get_or values place 0) end (counts_from at (place + 1) (drop (place + 1) values)))
count_said at text left values name many end place less left_is is ends says =
    let more : List ℕ = counts_from at (place + 1) (drop (place + 1) values) in
    let value : ℕ = get_or values place 0 in (
      All-get_or (λ count. count < 2 ^ 64) values place 0 (omega (arith, says.whole)) says.small,
      left_is values says
          ∙ count_left at values place (omega (arith, says.whole))
          ∙ ap (λ w. count_text w value (at place).1 more) (sym is)
          ∙ ap (λ byte. count_text name value byte more) (sym ends),
    )

-- its name is one word, and no digit ends it
named : (at : ℕ → List ℕ × ℕ) (name : List ℕ) (end place : ℕ) → AreNames at → name ≡ (at place).0 → end ≡ (at place).1 → Lacks 32 name × ((end < 48) ⊎ (57 < end))
named at name end place names is ends =
    let Word : List ℕ → Type 0 = λ w. Lacks 32 w in
    let Apart : ℕ → Type 0 = λ byte. (byte < 48) ⊎ (57 < byte) in
    let both = names place in
    (subst Word (sym is) both.0, subst Apart (sym ends) both.1)

-- nothing is said where the count at a place cannot be read
pub none_said : (at : ℕ → List ℕ × ℕ) (text left name values : List ℕ) (many end place : ℕ) → AreNames at → place < many → LeftOf at many text left place → name ≡ (at place).0 → end ≡ (at place).1 → (Lacks 32 name → (end < 48) ⊎ (57 < end) → (count : ℕ) (rest : List ℕ) → count < 2 ^ 64 → left ≢ count_text name count end rest) → SaysCounts at many text values → ⊥
none_said at text left name values many end place names less left_is is ends none says =
    let word = named at name end place names is ends in
    let said = count_said at text left values name many end place less left_is is ends says in
    none word.0 word.1 (get_or values place 0) (counts_from at (place + 1) (drop (place + 1) values)) said.0 said.1

-- one count less is left
pub one_less : (at : ℕ → List ℕ × ℕ) (text left rest name : List ℕ) (many end place count : ℕ) → AreNames at → place < many → count < 2 ^ 64 → LeftOf at many text left place → left ≡ count_text name count end rest → name ≡ (at place).0 → end ≡ (at place).1 → LeftOf at many text rest (place + 1)
one_less at text left rest name many end place count names less fits left_is read is ends values says =
    let said = count_said at text left values name many end place less left_is is ends says in
    (same_count left name rest (counts_from at (place + 1) (drop (place + 1) values)) end count (get_or values place 0) (named at name end place names is ends).1 fits said.0 read said.1).1

-- nothing is left after the last one
pub none_left : (at : ℕ → List ℕ × ℕ) (text left values : List ℕ) (many place : ℕ) → many ≤ place → LeftOf at many text left place → SaysCounts at many text values → left ≡ []
none_left at text left values many place whole left_is says =
    left_is values says ∙ ap (λ w. counts_from at place w) (drop_all place values (omega (arith, says.whole)))
