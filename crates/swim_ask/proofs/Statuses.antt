-- The words of a status, one after the other, are its text, and that text is read in one way.
use Rattle.std.proofs.Common.{◌≡◌, ◌==◌, ◌+◌, ℕ, zero, suc, ◌<◌, Bool, true, false, List, [], ◌∷◌, ◌++◌, length, drop, get_or, append_assoc, refl, sym, ◌∙◌, ap, inl, arith, rules}
use Rattle.std.proofs.lemmas.List.{drop_all}
use Rattle.std.proofs.lemmas.Bool.{eqb-true, false≢true}
use Rattle.std.specs.Prelude.{codes, ◌≢◌}
use Rattle.std.specs.Fmt.{decimal}
use Rattle.swim_member.specs.Texts.{phase_word}
use Rattle.swim_node.specs.declared.entry.Status.{Status}
use Rattle.swim_member.specs.declared.state.Phase.{Phase}
use Rattle.swim_member.specs.declared.state.Phase.TheVariants.{Running, Left, Expelled}
use Rattle.swim_shell.specs.Answers.{counted, status_rest, status_text}
use Rattle.swim_words.specs.Words.{Lacks, split_by}
use Rattle.swim_words.proofs.Splits.{lacks_byte, same_split}
use Rattle.swim_ask.specs.Answers.{SaysStatus}
use Rattle.swim_ask.specs.Machinery.Counts.{SaysCounts, counts_from, status_at}
use Rattle.swim_ask.proofs.Counts.{after_name}
use Rattle.swim_ask.proofs.Counted.{AreNames, from_place}

-- the counts of a status
abbrev pub counts_of : Status → List ℕ
counts_of s = s.number ∷ s.alive ∷ s.suspect ∷ s.confirmed ∷ s.length ∷ []

-- its text from the phase on
abbrev pub from_phase : Status → List ℕ
from_phase s = phase_word s.phase ++ 32 ∷ counts_from status_at 0 (counts_of s)

pub one_line : (s : Status) → codes "ok" ++ 32 ∷ from_phase s ≡ status_text s
one_line s =
    ap (λ (xs : List ℕ). codes "ok " ++ xs)
    (ap (λ (xs : List ℕ). phase_word s.phase ++ (codes " number " ++ xs)) (sym (append_assoc (decimal s.number) (counted (codes " alive ") s.alive) (status_rest s)))
    ∙ sym (append_assoc (phase_word s.phase) (counted (codes " number ") s.number ++ counted (codes " alive ") s.alive) (status_rest s)))

pub status_names : AreNames status_at
status_names zero = (lacks_byte 32 (codes "number") refl, inl (omega arith))
status_names (suc zero) = (lacks_byte 32 (codes "alive") refl, inl (omega arith))
status_names (suc (suc zero)) = (lacks_byte 32 (codes "suspect") refl, inl (omega arith))
status_names (suc (suc (suc zero))) = (lacks_byte 32 (codes "confirmed") refl, inl (omega arith))
status_names (suc (suc (suc (suc place)))) = (lacks_byte 32 (codes "length") refl, inl (omega arith))

-- five counts are those at their places
pub five : (counts : List ℕ) → length counts ≡ 5 → counts ≡ get_or counts 0 0 ∷ get_or counts 1 0 ∷ get_or counts 2 0 ∷ get_or counts 3 0 ∷ get_or counts 4 0 ∷ []
five counts whole =
    let next : (place : ℕ) → place < 5 → drop place counts ≡ get_or counts place 0 ∷ drop (place + 1) counts = λ place less. from_place counts place (omega (arith, whole)) in
    next 0 (omega arith) ∙ ap (λ w. get_or counts 0 0 ∷ w) (next 1 (omega arith)
    ∙ ap (λ w. get_or counts 1 0 ∷ w) (next 2 (omega arith)
    ∙ ap (λ w. get_or counts 2 0 ∷ w) (next 3 (omega arith)
    ∙ ap (λ w. get_or counts 3 0 ∷ w) (next 4 (omega arith)
    ∙ ap (λ w. get_or counts 4 0 ∷ w) (drop_all 5 counts (omega (arith, whole)))))))

-- a text that is empty has nothing
pub nothing : (text : List ℕ) (is_empty : Bool) → is_empty ≡ (length text == 0) → is_empty ≡ true → text ≡ []
nothing [] is_empty same is = refl
nothing (byte ∷ text) is_empty same is = let none : length (byte ∷ text) ≡ 0 = eqb-true (length (byte ∷ text)) 0 (sym same ∙ is) in absurd (omega (arith, none))

-- and one that is not empty has something
pub something : (text : List ℕ) (is_empty : Bool) → is_empty ≡ (length text == 0) → is_empty ≡ false → text ≢ []
something text is_empty same is none = false≢true (sym is ∙ same ∙ ap (λ (w : List ℕ). length w == 0) none)

phase_lacks : (phase : Phase) → Lacks 32 (phase_word phase)
phase_lacks Running = lacks_byte 32 (codes "running") refl
phase_lacks Left = lacks_byte 32 (codes "left") refl
phase_lacks Expelled = lacks_byte 32 (codes "expelled") refl

-- what was read up to the phase, and what is read of a status from there on
pub phase_in : (text rest : List ℕ) (s : Status) → text ≡ codes "ok" ++ 32 ∷ rest → SaysStatus text s → rest ≡ from_phase s
phase_in text rest s is says = after_name text (codes "ok") rest (from_phase s) is (says.says ∙ sym (one_line s))

pub counts_in : (text rest word more : List ℕ) (s : Status) → text ≡ codes "ok" ++ 32 ∷ rest → Lacks 32 word → rest ≡ split_by 32 word more → SaysStatus text s → (word ≡ phase_word s.phase) × SaysCounts status_at 5 more (counts_of s)
counts_in text rest word more s is lacks cut says =
    let same = same_split 32 rest word more (phase_word s.phase) (counts_from status_at 0 (counts_of s)) lacks cut (phase_lacks s.phase) (phase_in text rest s is says) in (
      same.0,
      record {
        says = same.1;
        whole = refl;
        small = search (rules, says.number, says.alive, says.suspect, says.confirmed, says.entries);
      },
    )
