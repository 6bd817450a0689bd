use Rattle.std.proofs.Common.{◌∙◌, drop, sym, ap, subst, arith}
use Rattle.swim_wire.specs.Numbers.{IsEndpoint}
use Rattle.swim_wire.specs.Updates.{update_kind_of}
use Rattle.swim_wire.proofs.Texts.{AreBytes-drop, number_at-drop, endpoint_at}
use Rattle.swim_wire.proofs.Updates.{update_kind_of-update_code}
use Rattle.swim_wire.proofs.update.Update.from_bytes.Goals as goal

pub from_number-requires : goal.from_number-requires
from_number-requires c =
    let bytes = c.args.bytes.now in
    let fits = AreBytes-drop 2 bytes (λ i. omega (arith, c.type_inv.bytes i)) in
    subst IsEndpoint (sym c.who_in.ensures) (endpoint_at (drop 2 bytes) fits (λ e. c.requires.member (sym (number_at-drop 4 2 2 bytes) ∙ e)))

pub returns : goal.returns
returns c =
    let kind = sym (ap update_kind_of c.in-Some.ensures.some ∙ update_kind_of-update_code c.in-Some.kind) in
    let who = c.from_number.ensures ∙ c.who_in.ensures in
    λ i. record { kind = kind i; who = who i; number = c.number_in.ensures i }
