-- Texts that begin with lines.
use Rattle.std.specs.Prelude.{◌≡◌, ℕ, List, ◌∷◌, ◌++◌, All}
use Rattle.swim_record.specs.declared.line.Line.{Line}
use Rattle.swim_record.specs.Lines.{arguments_of, line_text}
use Rattle.swim_record.specs.Text.{IsArgument}

-- the numbers and endpoints of the line are such
abbrev pub IsFit : Line → Type 0
IsFit l = All IsArgument (arguments_of l)

abbrev pub AreFit : List Line → Type 0
AreFit lines = All IsFit lines

-- the text is this line, its end, and the rest
abbrev pub StartsWith : List ℕ → Line → List ℕ → Type 0
StartsWith text l rest = (text ≡ line_text l ++ 10 ∷ rest) × IsFit l

-- no line stands at its front
abbrev pub HasNoLine : List ℕ → Type 0
HasNoLine text = (l : Line) → (rest : List ℕ) → StartsWith text l rest → ⊥
