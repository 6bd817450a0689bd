use Rattle.std.proofs.Common.{◌∙◌, arith, sym, subst}
use Rattle.swim_wire.specs.Spelling.{Spells}
use Rattle.swim_wire.specs.Reading.{datagram_of}
use Rattle.swim_wire.proofs.Grammar.{faultless_spelled, read_is}
use Rattle.swim_wire.proofs.Judging.{reading-fault, reading-faultless}
use Rattle.swim_wire.proofs.reading.decode_into.Goals as goal

pub returns-in-Some-clause-fault : goal.returns-in-Some-clause-fault
returns-in-Some-clause-fault c = reading-fault c.args.bytes.now c.in-Some.fault c.in-Some.ensures.some

pub returns-clause-ok : goal.returns-clause-ok
returns-clause-ok c =
    let bytes = c.args.bytes.now in
    subst (Spells bytes) (sym c.read_into.ensures) (faultless_spelled bytes (λ i. omega (arith, c.type_inv.bytes i)) c.in_default.ensures.none)

pub returns-clause-read : goal.returns-clause-read
returns-clause-read c =
    let bytes = c.args.bytes.now in
    reading-faultless bytes c.in_default.ensures.none ∙ read_is (datagram_of bytes) c.read_into.new.place (sym c.read_into.ensures)
