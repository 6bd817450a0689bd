-- Where a control socket is.
use Rattle.std.specs.Prelude.{◌==◌, ◌≤◌, ℕ, List, length, Bool, false, bytes_eq}
use Rattle.swim_wire.specs.Numbers.{IsEndpoint}
use Rattle.swim_words.specs.Words.{endpoint_text, Lacks}
use Rattle.swim_settings.specs.declared.control.ControlPlace.{ControlPlace}
use Rattle.swim_settings.specs.declared.control.ControlPlace.TheVariants.{Tcp, Unix}
use Rattle.swim_settings.specs.declared.control.TheConstants.{CONTROL_PATH_MAX}

-- the text of its endpoint, or its path
abbrev pub control_text : ControlPlace → List ℕ
control_text (Tcp e) = endpoint_text e
control_text (Unix path) = path.bytes

-- an endpoint, or a path that has a slash and is not too long
abbrev pub IsControl : ControlPlace → Type 0
IsControl (Tcp e) = IsEndpoint e
IsControl (Unix path) = (¬ Lacks 47 path.bytes) × (length path.bytes ≤ CONTROL_PATH_MAX)

-- both are the same endpoint, or the same path
abbrev pub is_same_control : ControlPlace → ControlPlace → Bool
is_same_control (Tcp a) (Tcp b) = a == b
is_same_control (Unix a) (Unix b) = bytes_eq a.bytes b.bytes
is_same_control _ _ = false
