use Rattle.std.proofs.Common.{◌∙◌, sym, ap, inl, inr}
use Rattle.std.proofs.lemmas.List.{take_rest}
use Rattle.byteorder.specs.Endian.{big_number}
use Rattle.swim_wire.specs.declared.fault.WireFault.TheVariants.{Version, Kind, Endpoint}
use Rattle.swim_wire.specs.Numbers.{number_at}
use Rattle.swim_wire.specs.Reading.{rules_of_code, kind_of}
use Rattle.swim_wire.proofs.Texts.{number_at-drop}
use Rattle.swim_wire.proofs.Grammar.{rules_of_code-rules_code, kind_of-kind_code, zero_subject_at}
use Rattle.swim_wire.proofs.head.Head.from_bytes.Goals as goal

pub unreachable-requires : goal.unreachable-requires
unreachable-requires c = c.requires.faultless Version c.in_default.ensures.none

pub unreachable-requires-in_default-from_code : goal.unreachable-requires-in_default-from_code
unreachable-requires-in_default-from_code c = c.requires.faultless Kind c.in_default-from_code.ensures.none

pub from_bytes-requires-clause-port : goal.from_bytes-requires-clause-port
from_bytes-requires-clause-port c =
    let bytes = c.args.bytes.now in
    λ e. c.requires.faultless Endpoint (inl (sym (number_at-drop 4 2 20 bytes) ∙ ap (number_at 4 2) (sym (take_rest bytes 20)) ∙ e))

pub from_bytes-requires-2-clause-port : goal.from_bytes-requires-2-clause-port
from_bytes-requires-2-clause-port c =
    let bytes = c.args.bytes.now in
    let rest = take_rest bytes 26 in
    λ e. ap (big_number 4) rest ∙ zero_subject_at bytes (λ h. c.requires.faultless Endpoint (inr (inl h))) (sym (number_at-drop 4 2 26 bytes) ∙ ap (number_at 4 2) (sym rest) ∙ e)

pub returns : goal.returns
returns c =
    let bytes = c.args.bytes.now in
    let version = sym (ap rules_of_code c.in-Some.ensures.some ∙ rules_of_code-rules_code c.in-Some.version) in
    let kind = sym (ap kind_of c.in-Some-from_code.ensures.some ∙ kind_of-kind_code c.in-Some-from_code.kind) in
    let group = c.read_u64.ensures ∙ ap (big_number 8) (take_rest bytes 8) in
    let seq = c.read_u32.ensures ∙ ap (big_number 4) (take_rest bytes 16) in
    let sender = c.from_bytes.ensures ∙ ap (big_number 6) (take_rest bytes 20) in
    let subject = c.from_bytes-2.ensures ∙ ap (big_number 6) (take_rest bytes 26) in
    λ i. record { version = version i; kind = kind i; group = group i; seq = seq i; sender = sender i; subject = subject i }
