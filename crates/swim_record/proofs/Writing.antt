-- Lines one after another.
use Rattle.std.proofs.Common.{◌≡◌, ℕ, List, [], ◌∷◌, ◌++◌, ap, sym, ◌∙◌, refl, append_assoc}
use Rattle.swim_record.specs.declared.line.Line.{Line}
use Rattle.swim_record.specs.Lines.{line_text}
use Rattle.swim_record.specs.Recording.{lines_text}

pub lines-append : (lines others : List Line) → lines_text (lines ++ others) ≡ lines_text lines ++ lines_text others
lines-append [] others = refl
lines-append (l ∷ lines) others =
    ap (λ (t : List ℕ). line_text l ++ 10 ∷ t) (lines-append lines others)
    ∙ sym (append_assoc (line_text l) (10 ∷ lines_text lines) (lines_text others))
