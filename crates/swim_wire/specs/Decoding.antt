-- What a text of bytes is read as, as tests that compute. `decode`
-- shows that they agree with the grammar and the sets of texts.
use Rattle.std.specs.Prelude.{ℕ, zero, suc, ◌+◌, ◌-◌, ◌*◌, ◌/◌, ◌==◌, ◌&&◌, ◌||◌, nat_lt, Bool}
use Rattle.std.specs.Prelude.{false, not, List, [], ◌∷◌, length, take, slice_index, Option, Some}
use Rattle.std.specs.Prelude.{None, Result, Ok, Err}
use Rattle.std.specs.List.{find}
use Rattle.std.specs.Str.{bytes_eq}
use Rattle.swim_wire.specs.declared.datagram.TheConstants.{DATAGRAM_MAX}
use Rattle.swim_wire.specs.declared.datagram.Datagram.{Datagram}
use Rattle.swim_wire.specs.declared.fault.WireFault.{WireFault}
use Rattle.swim_wire.specs.declared.fault.WireFault.TheVariants.{TooShort, TooLong, Magic, Version}
use Rattle.swim_wire.specs.declared.fault.WireFault.TheVariants.{Kind, Count, Reserved, Endpoint}
use Rattle.swim_wire.specs.declared.fault.WireFault.TheVariants.{UpdateKind, Number}
use Rattle.swim_wire.specs.Numbers.{number_at, is_code}
use Rattle.swim_wire.specs.Updates.{has_reserved_update, has_no_member}
use Rattle.swim_wire.specs.Updates.{has_unknown_code, has_great_number}
use Rattle.swim_wire.specs.Spelling.{magic}
use Rattle.swim_wire.specs.Faults.{from_update}
use Rattle.swim_wire.specs.Reading.{datagram_of}

-- one of the numbers below n passes the test
abbrev pub some_below : ℕ → (ℕ → Bool) → Bool
some_below zero test = false
some_below (suc n) test = test n || some_below n test

-- some whole update of the text, and what follows it, passes the test
abbrev pub some_update : (List ℕ → Bool) → List ℕ → Bool
some_update test bytes = some_below ((length bytes - 32) / 16) (λ i. test (from_update i bytes))

-- the subject is the zero cursor of a join or a page
abbrev pub is_zero_cursor : List ℕ → Bool
is_zero_cursor bytes =
    (slice_index bytes 5 == 4 || slice_index bytes 5 == 5) && (number_at 26 4 bytes == 0)

-- the text has this fault
abbrev pub has_fault : WireFault → List ℕ → Bool
has_fault TooShort bytes = nat_lt (length bytes) 32
has_fault TooLong bytes = nat_lt DATAGRAM_MAX (length bytes)
has_fault Magic bytes = not (bytes_eq (take 4 bytes) magic)
has_fault Version bytes = not (is_code 2 (slice_index bytes 4))
has_fault Kind bytes = not (is_code 5 (slice_index bytes 5))
has_fault Count bytes = not (length bytes == 32 + 16 * slice_index bytes 6)
has_fault Reserved bytes =
    not (slice_index bytes 7 == 0) || some_update has_reserved_update bytes
has_fault Endpoint bytes =
    (number_at 24 2 bytes == 0)
    || (((number_at 30 2 bytes == 0) && not (is_zero_cursor bytes))
    || some_update has_no_member bytes)
has_fault UpdateKind bytes = some_update has_unknown_code bytes
has_fault Number bytes = some_update has_great_number bytes

-- the faults in their order
abbrev pub all_faults : List WireFault
all_faults = TooShort ∷ TooLong ∷ Magic ∷ Version ∷ Kind ∷ Count ∷ Reserved ∷ Endpoint ∷ UpdateKind
    ∷ Number ∷ []

-- the first fault that the bytes have, in the order of the list
abbrev pub first_fault_of : List ℕ → Option WireFault
first_fault_of bytes = find (λ fault. has_fault fault bytes) all_faults

-- a fault if there is one, else the datagram
abbrev pub read_as : Option WireFault → Datagram → Result Datagram WireFault
read_as (Some fault) d = Err fault
read_as None d = Ok d

-- the first fault of the text, or the datagram that it spells
abbrev pub decoded : List ℕ → Result Datagram WireFault
decoded bytes = read_as (first_fault_of bytes) (datagram_of bytes)
