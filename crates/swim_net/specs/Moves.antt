-- What the system moved.
use Rattle.std.specs.Prelude.{ℕ, List, [], ◌∷◌, ◌++◌, take, Result, Ok, Err}

-- the bytes that the system moved by these reads or writes, by what it answered
abbrev pub moved_in : {E : Type 0} → List (List ℕ × Result ℕ E) → List ℕ
moved_in [] = []
moved_in ((bytes, Ok count) ∷ rest) = take count bytes ++ moved_in rest
moved_in ((bytes, Err why) ∷ rest) = moved_in rest
