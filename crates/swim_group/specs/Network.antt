-- What a network may bring: it loses, repeats, delays and reorders what
-- is sent, brings it to anybody, damages it, and invents nothing.
use Rattle.std.specs.Prelude.{◌≡◌, List, [], ◌∷◌, ◌⊎◌, Result, Ok, Err}
use Rattle.swim_wire.specs.declared.datagram.Datagram.{Datagram}
use Rattle.swim_wire.specs.declared.fault.WireFault.{WireFault}
use Rattle.swim_wire.specs.Decoding.{decoded}
use Rattle.swim_member.specs.declared.answer.Out.{Out}
use Rattle.swim_member.specs.declared.event.Event.{Event}
use Rattle.swim_member.specs.declared.event.Event.TheVariants as event

-- the datagram was sent, by whomever and to whomever
abbrev pub WasSent : List Out → Datagram → Type 0
WasSent [] d = ⊥
WasSent (out ∷ outs) d = (out.datagram ≡ d) ⊎ WasSent outs d

-- what is read is a datagram that was sent, or is faulty
abbrev pub IsSentOrFaulty : List Out → Result Datagram WireFault → Type 0
IsSentOrFaulty sent (Ok d) = WasSent sent d
IsSentOrFaulty sent (Err fault) = Unit {0}

-- the network invents nothing: bytes that come are faulty, or spell a datagram that was sent.
-- All other events may come at any time
abbrev pub IsNotInvented : List Out → Event → Type 0
IsNotInvented sent (event.Datagram from bytes) = IsSentOrFaulty sent (decoded bytes.items)
IsNotInvented sent _ = Unit {0}
