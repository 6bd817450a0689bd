-- What holds of a result, by its outcome.
use Rattle.std.specs.Prelude.{Result, Ok, Err, IfErr}

-- a fact of what was refused makes another one
pub of_refused : {A B : Type 0} (r : Result A B) (P Q : B → Type 0) → IfErr r P → ((e : B) → P e → Q e) → IfErr r Q
of_refused (Ok x) P Q p f = tt
of_refused (Err e) P Q p f = f e p
