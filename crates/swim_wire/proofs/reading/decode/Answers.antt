use Rattle.std.proofs.Common.{◌∙◌, arith, sym, refl}
use Rattle.swim_wire.proofs.Grammar.{read_ok, fault_ok, fault_err, spelled_faultless}
use Rattle.swim_wire.proofs.Judging.{reading-faultless}
use Rattle.swim_wire.proofs.reading.decode.Goals as goal

pub returns-in-Ok-clause-ok : goal.returns-in-Ok-clause-ok
returns-in-Ok-clause-ok c =
    let bytes = c.args.bytes.now in
    let read = c.decode_into.new.place in
    let said = c.in-Ok.ensures in
    let none = spelled_faultless bytes read said.ok in
    read_ok bytes read (λ i. omega (arith, c.type_inv.bytes i)) none (sym said.read ∙ reading-faultless bytes none)

pub returns-in-Err-clause-ok : goal.returns-in-Err-clause-ok
returns-in-Err-clause-ok c = fault_ok c.args.bytes.now c.in-Err.fault ((c.in-Err.ensures.err c.in-Err.fault).0 refl)

pub returns-in-Err-clause-err : goal.returns-in-Err-clause-err
returns-in-Err-clause-err c = fault_err c.args.bytes.now c.in-Err.fault ((c.in-Err.ensures.err c.in-Err.fault).0 refl)
