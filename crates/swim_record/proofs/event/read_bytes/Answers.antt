use Rattle.std.proofs.Common.{◌≡◌, ◌++◌, List, ℕ, length, inl, inr, sym, ap, ◌∙◌, arith, Ok}
use Rattle.hex.specs.Hex.{decode_of}
use Rattle.swim_record.proofs.Events.{no_bytes, refused, some_bytes}
use Rattle.swim_record.proofs.event.read_bytes.Goals as goal

pub returns-then-is_dash : goal.returns-then-is_dash
returns-then-is_dash c bytes are few same =
    c.new-bytes.ensures ∙ sym (no_bytes bytes (sym (c.is_dash.ensures.yes c.if-is_dash.true) ∙ same))

pub returns-in-Err : goal.returns-in-Err
returns-in-Err c bytes are few same =
    elim c.in-Err.ensures.none [
      | inl memory ↦ refused c.in-Err.fault _ memory
      | inr none ↦ absurd (none bytes (some_bytes c.args.word.now bytes are (c.is_dash.ensures.no c.if-is_dash.false) same))
    ]

pub returns-in-Ok-try_extend_from_slice : goal.returns-in-Ok-try_extend_from_slice
returns-in-Ok-try_extend_from_slice c bytes are few same =
    let decoded : decode_of c.args.word.now ≡ Ok bytes = some_bytes c.args.word.now bytes are (c.is_dash.ensures.no c.if-is_dash.false) same in
    let read : decode_of c.args.word.now ≡ Ok c.in-Ok.decoded.items = c.in-Ok.ensures.bytes in
    let items : c.in-Ok.decoded.items ≡ bytes = cc in
    c.in-Ok-try_extend_from_slice.ensures.ok ∙ ap (λ (l : List ℕ). l ++ c.deref.result.now) c.new-bytes.ensures ∙ c.deref.ensures.value ∙ items

pub returns : goal.returns
returns c bytes are few same =
    let decoded : decode_of c.args.word.now ≡ Ok bytes = some_bytes c.args.word.now bytes are (c.is_dash.ensures.no c.if-is_dash.false) same in
    let read : decode_of c.args.word.now ≡ Ok c.in-Ok.decoded.items = c.in-Ok.ensures.bytes in
    let items : c.in-Ok.decoded.items ≡ bytes = cc in
    let over = c.in-Err-try_extend_from_slice.ensures.variant.1 (omega (arith, few, ap length items, ap length c.deref.ensures.value, ap length c.new-bytes.ensures)) in
    absurd (cc)
