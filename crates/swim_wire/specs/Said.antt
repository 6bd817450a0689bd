-- What updates, and a datagram of them, say of a member's number.
use Rattle.std.specs.Prelude.{ℕ, ◌==◌, max, if◌then◌else◌, List, [], ◌∷◌, Result, Ok, Err}
use Rattle.swim_wire.specs.declared.datagram.Datagram.{Datagram}
use Rattle.swim_wire.specs.declared.fault.WireFault.{WireFault}
use Rattle.swim_wire.specs.declared.update.Update.{Update}

-- the number that an update says of a member, or 0
abbrev pub number_of : ℕ → Update → ℕ
number_of me u = if u.who == me then u.number else 0

-- the greatest number that updates say of it, or 0
abbrev pub greatest_said : ℕ → List Update → ℕ
greatest_said me [] = 0
greatest_said me (u ∷ updates) = max (number_of me u) (greatest_said me updates)

-- and that received bytes say of it: 0 where they spell no datagram
abbrev pub number_said : ℕ → Result Datagram WireFault → ℕ
number_said me (Ok p) = greatest_said me p.updates.items
number_said me (Err _) = 0
