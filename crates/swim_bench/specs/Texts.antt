use Rattle.std.specs.Prelude.{ℕ, List, take}
use Rattle.swim_wire.specs.declared.datagram.Datagram.{Datagram}
use Rattle.swim_wire.specs.Spelling.{Spells}

-- some first bytes are the text of a datagram
abbrev pub BeginsWithText : List ℕ → Type 0
BeginsWithText bytes = (len : ℕ) × (d : Datagram) × Spells (take len bytes) d
