-- What goes over a control connection.
use Rattle.std.specs.Prelude.{◌≡◌, ℕ, ◌≤◌, Bool, List, [], ◌∷◌, ◌++◌, Result, Ok}
use Rattle.std.specs.declared.io.Error.{Error}
use Rattle.swim_net.specs.declared.connection.ConnectionReader.{ConnectionReader}

-- what the buffer held after each read of a connection, and what the system answered
abbrev pub reads_of : {C : Type 0} → ConnectionReader C → List (List ℕ × Result ℕ Error)
reads_of reader = reader.stream.answers.items

-- all bytes that a connection's reader gave
abbrev pub given_by : {C : Type 0} → ConnectionReader C → List ℕ
given_by reader = reader.guard.passed

-- a line has ended the input of a connection
abbrev pub has_ended : {C : Type 0} → ConnectionReader C → Bool
has_ended reader = reader.guard.has_ended

-- what it gave of a line without its end yet, and whether a line before that was refused
abbrev pub unended_of : {C : Type 0} → ConnectionReader C → List ℕ
unended_of reader = reader.guard.part.bytes

abbrev pub has_refused : {C : Type 0} → ConnectionReader C → Bool
has_refused reader = reader.guard.has_refused

-- one more read, of whose answer so many bytes were given
pub record GivesOf {E : Type 0} (old new : List (List ℕ × Result ℕ E)) (bytes : List ℕ)
    (count : ℕ) : Type 0 where
  pub came : ℕ
  pub told : new ≡ old ++ (bytes, Ok came) ∷ []
  pub most : count ≤ came
