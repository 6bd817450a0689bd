-- What the updates of a text say of a member's number.
use Rattle.std.proofs.Common.{◌≡◌, ℕ, List, [], ◌∷◌, ◌++◌, max, refl, ap, arith, true, false, Some, None}
use Rattle.std.specs.Prelude.{drop, slice_index, Option, IfSome, IfNone}
use Rattle.std.specs.Option.{is_some}
use Rattle.swim_wire.specs.Decoding.{first_fault_of, read_as, decoded}
use Rattle.swim_wire.specs.Reading.{updates_of, datagram_of}
use Rattle.swim_wire.specs.declared.datagram.Datagram.{Datagram}
use Rattle.swim_wire.specs.declared.fault.WireFault.{WireFault}
use Rattle.swim_wire.specs.declared.update.Update.{Update}
use Rattle.swim_wire.specs.Faults.{IsFirstFault, IsFaultless}
use Rattle.swim_wire.specs.Said.{number_of, greatest_said, number_said}
use Rattle.swim_wire.proofs.Judging.{reading-fault, reading-faultless}

-- one update more
pub greatest_said-more : (me : ℕ) (us : List Update) (u : Update) → greatest_said me (us ++ u ∷ []) ≡ max (number_of me u) (greatest_said me us)
greatest_said-more me [] u = refl
greatest_said-more me (v ∷ us) u = omega (arith, greatest_said-more me us u)

read_without : (me : ℕ) (fault : Option WireFault) (d : Datagram) → greatest_said me d.updates.items ≡ 0 → number_said me (read_as fault d) ≡ 0
read_without me (Some fault) d none = refl
read_without me None d none = none

-- updates that say no number say none, whether the bytes are faulty or not
pub said_nothing : (me : ℕ) (bytes : List ℕ) → greatest_said me (updates_of (slice_index bytes 6) (drop 32 bytes)) ≡ 0 → number_said me (decoded bytes) ≡ 0
said_nothing me bytes none = read_without me (first_fault_of bytes) (datagram_of bytes) none

-- and so do bytes that count none
pub counts_none : (me : ℕ) (bytes : List ℕ) → slice_index bytes 6 ≡ 0 → number_said me (decoded bytes) ≡ 0
unfolding updates_of
counts_none me bytes none = said_nothing me bytes (ap (λ (n : ℕ). greatest_said me (updates_of n (drop 32 bytes))) none)

-- what is said where a fault was looked for, and was found or was not
pub faulty_says : (me : ℕ) (bytes : List ℕ) (found : Option WireFault) → IfSome found (λ f. IsFirstFault f bytes) → true ≡ is_some found → number_said me (decoded bytes) ≡ 0
faulty_says me bytes (Some f) first is = ap (number_said me) (reading-fault bytes f first)
faulty_says me bytes None first is = absurd cc

pub faultless_says : (me : ℕ) (bytes : List ℕ) (found : Option WireFault) → IfNone found (IsFaultless bytes) → false ≡ is_some found → number_said me (decoded bytes) ≡ greatest_said me (updates_of (slice_index bytes 6) (drop 32 bytes))
faultless_says me bytes (Some f) none is = absurd cc
faultless_says me bytes None none is = ap (number_said me) (reading-faultless bytes none)
