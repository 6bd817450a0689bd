-- What the system moved by one more read or write.
use Rattle.std.proofs.Common.{◌≡◌, ℕ, ◌<◌, ◌≤◌, Bool, true, false, List, [], ◌∷◌, ◌++◌, length, drop, refl, sym, ◌∙◌, ap, ⊎_elim, arith, append_assoc, append-nil}
use Rattle.std.proofs.lemmas.Bool.{cases_lt, false≢true}
use Rattle.std.proofs.lemmas.List.{drop_all, length-take, take_all, take-append-drop, take-append-le}
use Rattle.std.specs.Prelude.{min, take, OnErr, Result, Ok, Err}
use Rattle.std.specs.Result.{MatchResult}
use Rattle.swim_net.specs.Guard.{IsLetThrough}
use Rattle.swim_net.specs.Moves.{moved_in}

moved_some : {E : Type 0} (calls : List (List ℕ × Result ℕ E)) (bytes : List ℕ) (count : ℕ) → moved_in (calls ++ (bytes, Ok count) ∷ []) ≡ moved_in calls ++ take count bytes
moved_some [] bytes count = append-nil (take count bytes)
moved_some ((first, Ok n) ∷ calls) bytes count =
    ap (λ rest. take n first ++ rest) (moved_some calls bytes count) ∙ sym (append_assoc (take n first) (moved_in calls) (take count bytes))
moved_some ((first, Err why) ∷ calls) bytes count = moved_some calls bytes count

moved_none : {E : Type 0} (calls : List (List ℕ × Result ℕ E)) (bytes : List ℕ) (why : E) → moved_in (calls ++ (bytes, Err why) ∷ []) ≡ moved_in calls
moved_none [] bytes why = refl
moved_none ((first, Ok n) ∷ calls) bytes why = ap (λ rest. take n first ++ rest) (moved_none calls bytes why)
moved_none ((first, Err other) ∷ calls) bytes why = moved_none calls bytes why

-- after one more call
pub moved_more : {E : Type 0} (calls : List (List ℕ × Result ℕ E)) (bytes : List ℕ) (answer : Result ℕ E) → MatchResult answer (λ count. moved_in (calls ++ (bytes, answer) ∷ []) ≡ moved_in calls ++ take count bytes) (λ _. moved_in (calls ++ (bytes, answer) ∷ []) ≡ moved_in calls)
moved_more calls bytes (Ok count) = moved_some calls bytes count
moved_more calls bytes (Err why) = moved_none calls bytes why

-- one that failed moves nothing
pub moved_same : {E : Type 0} (old new : List (List ℕ × Result ℕ E)) (bytes : List ℕ) (answer : Result ℕ E) → new ≡ old ++ (bytes, answer) ∷ [] → OnErr answer (moved_in new ≡ moved_in old)
moved_same old new bytes (Ok count) told = tt
moved_same old new bytes (Err why) told = ap moved_in told ∙ moved_none old bytes why

-- a part of what is there of a list is that part of the whole
pub take_within : {A : Type 0} (bytes : List A) (came count : ℕ) → count ≤ length (take came bytes) → take count (take came bytes) ≡ take count bytes
take_within bytes came count within = sym (take-append-le count (take came bytes) (drop came bytes) within) ∙ ap (take count) (take-append-drop came bytes)

pub count_within : {A : Type 0} (bytes : List A) (came count : ℕ) → count ≤ length (take came bytes) → count ≤ came
count_within bytes came count within = let long : length (take came bytes) ≡ min came (length bytes) = length-take came bytes in omega (arith, long, within)

-- the first bytes of a list are those before the rest
first_of : (after rest came : List ℕ) → came ≡ after ++ rest → take (length after) came ≡ after
first_of after rest came whole = ap (take (length after)) whole ∙ take-append-le (length after) after rest (omega arith) ∙ take_all (length after) after (omega arith)

-- what is let through once more came: these, of which as many are cut as the guard says
pub let_more : {E : Type 0} (old new : List (List ℕ × Result ℕ E)) (bytes given passed after : List ℕ) (came count : ℕ) (before ended : Bool) → before ≡ false → IsLetThrough (moved_in old) passed before → new ≡ old ++ (bytes, Ok came) ∷ [] → after ≡ passed ++ take count given → (count < length given → ended ≡ true) → given ≡ take came bytes → IsLetThrough (moved_in new) after ended
let_more old new bytes given passed after came count before ended on was told let_through cut is =
    let now : moved_in new ≡ passed ++ given = ap moved_in told ∙ moved_some old bytes came ∙ ap (λ s. s ++ take came bytes) (sym (was.all on)) ∙ ap (λ s. passed ++ s) (sym is) in
    let whole : moved_in new ≡ after ++ drop count given = now ∙ ap (λ s. passed ++ s) (sym (take-append-drop count given)) ∙ sym (append_assoc passed (take count given) (drop count given)) ∙ ap (λ s. s ++ drop count given) (sym let_through) in record {
      part = first_of after (drop count given) (moved_in new) whole;
      all = λ on. ⊎_elim (λ less. absurd (false≢true (sym on ∙ cut less))) (λ enough. sym (whole ∙ ap (λ rest. after ++ rest) (drop_all count given enough) ∙ append-nil after)) (cases_lt count (length given));
    }

-- a read that failed lets nothing through
pub let_failed : {E : Type 0} (old new : List (List ℕ × Result ℕ E)) (bytes passed : List ℕ) (why : E) (ended : Bool) → new ≡ old ++ (bytes, Err why) ∷ [] → IsLetThrough (moved_in old) passed ended → IsLetThrough (moved_in new) passed ended
let_failed old new bytes passed why ended told was =
    let same : moved_in new ≡ moved_in old = ap moved_in told ∙ moved_none old bytes why in record { part = ap (take (length passed)) same ∙ was.part; all = λ on. was.all on ∙ sym same }
