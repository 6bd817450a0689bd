-- What it means that a file departs from its format at a place.
use Rattle.std.specs.Prelude.{◌≡◌, ◌≢◌, ℕ, ◌+◌, ◌-◌, ◌%◌, ◌<◌, ◌≤◌, List, length, slice_index}
use Rattle.swim_show.specs.declared.departing.Departure.{Departure}
use Rattle.swim_show.specs.declared.departing.Departure.TheVariants.{Short, Byte, Ceiling}
use Rattle.swim_show.specs.declared.departing.Departure.TheVariants.{Count, Port, Order}
use Rattle.swim_state.specs.File.{layout_of, version_in}
use Rattle.swim_state.specs.declared.peers.TheConstants.{PEERS_MAX}
use Rattle.swim_wire.specs.Numbers.{number_at}
use Rattle.swim_wire.specs.declared.update.TheConstants.{NUMBER_MAX}

-- how many bytes the version of the file has, which its mark names
abbrev pub wanted_size : List ℕ → ℕ
wanted_size image = (layout_of (version_in image)).file_size

-- A departure that is told is there: the file is too short; another byte than wanted stands at
-- the offset; a ceiling or a count is too great; a port is 0; a peer is not above the one before.
abbrev pub IsThere : List ℕ → Departure → Type 0
IsThere image (Short is wanted) =
    (length image ≡ is) × (wanted_size image ≡ wanted) × (is < wanted)
IsThere image (Byte at is wanted) = (slice_index image at ≡ is) × (is ≢ wanted)
IsThere image (Ceiling at number) = (number_at at 8 image ≡ number) × (NUMBER_MAX < number)
IsThere image (Count at count) = (slice_index image at ≡ count) × (PEERS_MAX < count)
IsThere image (Port at) = number_at at 6 image % 65536 ≡ 0
IsThere image (Order at) = number_at at 6 image ≤ number_at (at - 6) 6 image
