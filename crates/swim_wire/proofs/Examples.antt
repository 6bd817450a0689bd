-- Worked rows of the two versions, and of what is said of a member, by computation.
use Rattle.std.proofs.Common.{◌≡◌, refl, List, [], ◌∷◌, Some, Ok}
use Rattle.std.specs.Prelude.{slice_set}
use Rattle.swim_wire.specs.declared.datagram.Datagram.{Datagram}
use Rattle.swim_wire.specs.declared.datagram.Kind.TheVariants.{Ping}
use Rattle.swim_wire.specs.declared.fault.WireFault.TheVariants.{Version, Kind}
use Rattle.swim_wire.specs.declared.rules.Rules.{Rules}
use Rattle.swim_wire.specs.declared.rules.Rules.TheVariants.{One, Two}
use Rattle.swim_wire.specs.declared.update.Update.{Update}
use Rattle.swim_wire.specs.declared.update.UpdateKind.TheVariants.{Suspect, Confirm}
use Rattle.swim_wire.specs.Spelling.{spelling}
use Rattle.swim_wire.specs.Reading.{updates_of}
use Rattle.swim_wire.specs.Decoding.{first_fault_of, decoded}
use Rattle.swim_wire.specs.Said.{number_said}

-- a ping of 10.0.0.2:7000 to 10.0.0.1:7000 in group 7, by these rules
abbrev ping : Rules → List Update → Datagram
ping rules updates = record { version = rules; kind = Ping; group = 7; seq = 1; sender = 0x0A0000021B58; subject = 0x0A0000011B58; updates = record { items = updates } }

-- 10.0.0.3:7000 has failed
abbrev failed : Update
failed = record { kind = Confirm; who = 0x0A0000031B58; number = 9 }

-- by both rules what is spelled is read
one_is_read : decoded (spelling (ping One (failed ∷ []))) ≡ Ok (ping One (failed ∷ []))
unfolding updates_of
one_is_read = refl

two_is_read : decoded (spelling (ping Two (failed ∷ []))) ≡ Ok (ping Two (failed ∷ []))
unfolding updates_of
two_is_read = refl

-- version 2 is one, so the kind is judged next; 3 and 0 are none
kind_after_version : first_fault_of (slice_set (spelling (ping Two [])) 5 9) ≡ Some Kind
kind_after_version = refl

version_before_kind : first_fault_of (slice_set (slice_set (spelling (ping Two [])) 4 3) 5 9) ≡ Some Version
version_before_kind = refl

version_zero : first_fault_of (slice_set (spelling (ping One [])) 4 0) ≡ Some Version
version_zero = refl

-- 10.0.0.3:7000 and its neighbour at port 7001 are suspected
abbrev suspected : Update
suspected = record { kind = Suspect; who = 0x0A0000031B58; number = 4 }

abbrev neighbour : Update
neighbour = record { kind = Suspect; who = 0x0A0000031B59; number = 30 }

-- the greatest number counts, whichever kind says it, and no number of another port
greatest_is_said : number_said 0x0A0000031B58 (decoded (spelling (ping One (suspected ∷ failed ∷ neighbour ∷ suspected ∷ [])))) ≡ 9
unfolding updates_of
greatest_is_said = refl

nothing_is_said : number_said 0x0A0000041B58 (decoded (spelling (ping One (suspected ∷ neighbour ∷ [])))) ≡ 0
unfolding updates_of
nothing_is_said = refl

-- a fault in another update: the datagram says nothing
faulty_says_nothing : number_said 0x0A0000031B58 (decoded (slice_set (spelling (ping One (suspected ∷ neighbour ∷ []))) 49 1)) ≡ 0
faulty_says_nothing = refl
