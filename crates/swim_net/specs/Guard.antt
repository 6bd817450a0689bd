-- Which bytes of a control connection are let through.
use Rattle.std.specs.Prelude.{◌≡◌, ◌≢◌, ◌⊎◌, ℕ, ◌<◌, ◌≤◌, List, [], ◌∷◌, ◌++◌, length, take, codes}
use Rattle.std.specs.Prelude.{Bool, true, false, ◌||◌}
use Rattle.std.specs.Str.{bytes_eq}
use Rattle.swim_shell.specs.declared.lines.TheConstants.{LINE_MAX}
use Rattle.swim_shell.specs.declared.request.Request.{Request}
use Rattle.swim_shell.specs.declared.request.Request.TheVariants as asked
use Rattle.swim_shell.specs.Requests.{Names}
use Rattle.swim_net.specs.declared.guard.Verdict.{Verdict}
use Rattle.swim_net.specs.declared.guard.Verdict.TheVariants.{Known, Refused, Http}

-- the text begins with this word
abbrev pub begins_with : List ℕ → List ℕ → Bool
begins_with word text = bytes_eq word (take (length word) text)

-- the text begins as a line of an HTTP request does
abbrev pub begins_as_http : List ℕ → Bool
begins_as_http text =
    begins_with (codes "GET ") text || (begins_with (codes "POST ") text
    || (begins_with (codes "PUT ") text || (begins_with (codes "HEAD ") text
    || (begins_with (codes "DELETE ") text || (begins_with (codes "OPTIONS ") text
    || (begins_with (codes "PATCH ") text || (begins_with (codes "CONNECT ") text
    || (begins_with (codes "TRACE ") text || begins_with (codes "Host:") text))))))))

-- the first bytes of a line, as many as a control line may have, and whether it has more
pub record IsHead (long : Bool) (head bytes : List ℕ) : Type 0 where
  pub first : head ≡ take LINE_MAX bytes
  pub over : long ≡ true → LINE_MAX < length bytes
  pub within : long ≡ false → length bytes ≤ LINE_MAX

-- the line is none that a member knows, or is too long
abbrev pub is_no_line : Request → Bool
is_no_line asked.Unknown = true
is_no_line asked.TooLong = true
is_no_line _ = false

-- the line is none of control, or is one
pub record LineAsks (text : List ℕ) (refused : Bool) : Type 0 where
  pub request : Request
  pub names : Names text request
  pub is : is_no_line request ≡ refused

-- what a line of this text is to its connection
abbrev pub Judges : List ℕ → Verdict → Type 0
Judges text Http = begins_as_http (take LINE_MAX text) ≡ true
Judges text Refused = (begins_as_http (take LINE_MAX text) ≡ false) × LineAsks text true
Judges text Known = (begins_as_http (take LINE_MAX text) ≡ false) × LineAsks text false

-- after these bytes a connection goes on: these of them are of a line without its end yet, and a
-- line before it was refused, or none was
pub data StaysOpen : (passed part : List ℕ) → (refused : Bool) → Type 0 where
  begins : StaysOpen [] [] false
  more : (passed part : List ℕ) (refused : Bool) (byte : ℕ) → byte ≢ 10
      → StaysOpen passed part refused → StaysOpen (passed ++ byte ∷ []) (part ++ byte ∷ []) refused
  known : (passed part : List ℕ) (refused : Bool) → Judges part Known
      → StaysOpen passed part refused → StaysOpen (passed ++ 10 ∷ []) [] refused
  first : (passed part : List ℕ) → Judges part Refused
      → StaysOpen passed part false → StaysOpen (passed ++ 10 ∷ []) [] true

-- the last line of these bytes ends the connection, and none before it does: it begins as HTTP
-- does, or is the second one that is refused
pub record Ends (bytes : List ℕ) : Type 0 where
  pub before : List ℕ
  pub part : List ℕ
  pub refused : Bool
  pub on : StaysOpen before part refused
  pub last : bytes ≡ before ++ 10 ∷ []
  pub by : Judges part Http ⊎ ((refused ≡ true) × Judges part Refused)

-- of the bytes that came these are let through: the first of them, and all as long as it goes on
pub record IsLetThrough (came passed : List ℕ) (ended : Bool) : Type 0 where
  pub part : take (length passed) came ≡ passed
  pub all : ended ≡ false → passed ≡ came
