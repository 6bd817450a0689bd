use Rattle.std.proofs.Common.{arith}
use Rattle.std.specs.Fmt.{decimal}
use Rattle.swim_record.proofs.Events.{one_number}
use Rattle.swim_record.proofs.event.read_count.Goals as goal

pub returns : goal.returns
returns c count few same =
    one_number c.in_ok-rest.rest.now 0 c.from.result c.in_ok-number.number count (omega (arith, c.from.ensures)) (omega (arith, few)) c.in_ok-number.ensures.number (c.in_ok-rest.ensures (decimal count) same)
