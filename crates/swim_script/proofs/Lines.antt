-- The first line of a text.
use Rattle.std.proofs.Common.{◌≡◌, ℕ, false, ◌+◌, ◌-◌, ◌<◌, List, ◌∷◌, ◌++◌, length, get_or, take, drop, refl, sym, ap, ◌∙◌, arith, add-one, drop-cons, length-drop}
use Rattle.std.specs.Prelude.{All, ◌==◌}
use Rattle.std.proofs.lemmas.Bool.{eq-eqb}
use Rattle.std.proofs.lemmas.List.{take_all, take-append-drop}
use Rattle.std.proofs.lemmas.List.Splits.{slice_split_at}
use Rattle.swim_script.specs.Commands.{lines_of}

abbrev pub goes_on : ℕ → Type 0
goes_on byte = (byte == 10) ≡ false

pub cut_line : (text : List ℕ) (i : ℕ) → i < length text → All goes_on (take i text) → get_or text i 0 ≡ 10 → lines_of text ≡ take i text ∷ lines_of (take (length text - (i + 1)) (drop (i + 1) text))
cut_line text i lt front at =
    let rest = drop (i + 1) text in
    let whole : take (length text - (i + 1)) rest ≡ rest = take_all (length text - (i + 1)) rest (omega (arith, length-drop (i + 1) text)) in
    let parts : text ≡ take i text ++ get_or text i 0 ∷ rest = sym (take-append-drop i text) ∙ ap (λ (l : List ℕ). take i text ++ l) (rw (add-one, drop-cons text i 0 lt) refl) in
    ap lines_of parts ∙ slice_split_at (λ byte. byte == 10) (take i text) (get_or text i 0) rest front (eq-eqb (get_or text i 0) 10 at) ∙ ap (λ (l : List ℕ). take i text ∷ lines_of l) (sym whole)
