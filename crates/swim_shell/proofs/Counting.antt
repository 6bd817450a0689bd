-- Lines of counts, and the places of notes.
use Rattle.std.proofs.Common.{◌≡◌, ℕ, ◌+◌, ◌-◌, ◌<◌, List, [], ◌∷◌, ◌++◌, length, get_or, take, refl, ap, sym, ◌∙◌, arith}
use Rattle.std.proofs.lemmas.List.{append-nil, take_more, length-take-le}
use Rattle.swim_member.specs.declared.note.Note.{Note}
use Rattle.swim_member.specs.declared.note.Note.TheVariants as note
use Rattle.swim_member.specs.Texts.{note_name, note_number}
use Rattle.swim_shell.specs.declared.counters.Counter.{Counter}
use Rattle.swim_shell.specs.declared.counters.TheConstants.{NOTES_FROM}
use Rattle.swim_shell.specs.Counters.{counter_at, counter_name, lines_from}
use Rattle.std.proofs.lemmas.List.{append_assoc}

-- one line more
pub lines_from-more : (line : Counter → ℕ → List ℕ) (place : ℕ) (counts : List ℕ) (count : ℕ) → lines_from line place (counts ++ count ∷ []) ≡ lines_from line place counts ++ line (counter_at (place + length counts)) count
lines_from-more line place [] count =
    let here : place ≡ place + length {A = ℕ} [] = omega arith in
    append-nil (line (counter_at place) count) ∙ ap (λ k. line (counter_at k) count) here
lines_from-more line place (n ∷ ns) count =
    let next : place + 1 + length ns ≡ place + length (n ∷ ns) = omega arith in
    ap (λ w. line (counter_at place) n ++ w) (lines_from-more line (place + 1) ns count)
    ∙ ap (λ k. line (counter_at place) n ++ (lines_from line (place + 1) ns ++ line (counter_at k) count)) next
    ∙ sym (append_assoc (line (counter_at place) n) (lines_from line (place + 1) ns) (line (counter_at (place + length (n ∷ ns))) count))

-- the line at a place of its own
pub lines_from-taken : (line : Counter → ℕ → List ℕ) (place i : ℕ) (counts : List ℕ) (count : ℕ) → i < length counts → lines_from line place (take i counts ++ count ∷ []) ≡ lines_from line place (take i counts) ++ line (counter_at (place + i)) count
lines_from-taken line place i counts count less =
    let long : length (take i counts) ≡ i = length-take-le i counts (omega (arith, less)) in
    lines_from-more line place (take i counts) count
    ∙ ap (λ k. lines_from line place (take i counts) ++ line (counter_at (place + k)) count) long

-- a text with one line more
pub line_written : (line : Counter → ℕ → List ℕ) (old text new : List ℕ) (place i at : ℕ) (counts : List ℕ) → at ≡ place + i → i < length counts → text ≡ old ++ lines_from line place (take i counts) → new ≡ text ++ line (counter_at at) (get_or counts i 0) → new ≡ old ++ lines_from line place (take (i + 1) counts)
line_written line old text new place i at counts is less so_far then =
    let count : ℕ = get_or counts i 0 in
    then
    ∙ ap (λ w. w ++ line (counter_at at) count) so_far
    ∙ ap (λ k. old ++ lines_from line place (take i counts) ++ line (counter_at k) count) is
    ∙ append_assoc old (lines_from line place (take i counts)) (line (counter_at (place + i)) count)
    ∙ ap (λ w. old ++ w) (sym (lines_from-taken line place i counts count less))
    ∙ ap (λ w. old ++ lines_from line place w) (sym (take_more counts i 0 less))

-- where the notes of a kind are counted, the counter has their name
pub named_at : (n : Note) → counter_name (counter_at (NOTES_FROM + (note_number n - 1))) ≡ note_name n
named_at (note.BadDatagram fault) = refl
named_at note.OtherGroup = refl
named_at note.NotSender = refl
named_at note.FromSelf = refl
named_at note.Leap = refl
named_at note.NoNumberLeft = refl
named_at note.TableFull = refl
named_at note.Misdirected = refl
named_at note.RelaysFull = refl
named_at note.UnknownTarget = refl
named_at note.Unasked = refl
named_at note.SaveFailed = refl
named_at note.Expelled = refl
named_at note.Stopped = refl
named_at note.ReceiveFailed = refl
named_at (note.SendFailed count) = refl
named_at note.TimeOver = refl
named_at note.OtherVersion = refl
