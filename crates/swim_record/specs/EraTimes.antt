-- The line that says when an era was.
use Rattle.std.specs.Prelude.{◌≡◌, ℕ, List, [], ◌∷◌, ◌++◌, All, codes}
use Rattle.swim_record.specs.declared.argument.Argument.{Argument}
use Rattle.swim_record.specs.declared.argument.Argument.TheVariants.{Number}
use Rattle.swim_record.specs.declared.time.EraTime.{EraTime}
use Rattle.swim_record.specs.Text.{IsArgument, arguments_text}

-- when it began and ended, and the length of a tick
abbrev pub time_numbers : EraTime → List Argument
time_numbers t = Number t.begun ∷ Number t.ended ∷ Number t.tick ∷ []

-- each of them is below 2^64
abbrev pub IsEraTime : EraTime → Type 0
IsEraTime t = All IsArgument (time_numbers t)

-- the line, without its end
abbrev pub time_text : EraTime → List ℕ
time_text t = codes "clock" ++ arguments_text (time_numbers t)

-- the text is this line
abbrev pub SaysTime : List ℕ → EraTime → Type 0
SaysTime text t = (text ≡ time_text t) × IsEraTime t
