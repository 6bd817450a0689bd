use Rattle.std.proofs.Common.{◌∙◌, ℕ, List, [], ap, arith, length, sym}
use Rattle.std.proofs.lemmas.List.{length-take-le, take_min}
use Rattle.swim_member.specs.declared.event.Event.{Event}
use Rattle.swim_member.specs.declared.event.Event.TheVariants.{Datagram}
use Rattle.swim_shell.proofs.Printing.{gone_well}
use Rattle.swim_library.proofs.events.put_bytes.Goals as goal

abbrev from_in : Event → ℕ
from_in (Datagram from bytes) = from
from_in _ = 0

abbrev bytes_in : Event → List ℕ
bytes_in (Datagram from bytes) = bytes.items
bytes_in _ = []

pub returns-in-Datagram : goal.returns-in-Datagram
returns-in-Datagram c = λ from was.
    let same = sym c.in-Datagram.is ∙ was in
    let none = ap bytes_in same in
    let few = length-take-le c.min.result c.args.bytes.now (omega (arith, c.min.ensures)) in
    let taken = gone_well c.try_extend_from_slice.result _ c.try_extend_from_slice.ensures.ok (c.try_extend_from_slice.ensures.variant.1 (omega (arith, few, c.min.ensures, ap length none))) in
    let whole = taken ∙ rw (none, c.min.ensures) (take_min 513 c.args.bytes.now) in
    λ i. Datagram (ap from_in same i) (record { items = whole i })
