use Rattle.std.proofs.Common.{◌≡◌, List, ℕ, ap, ◌∙◌, Ok}
use Rattle.hex.specs.Hex.{decode_sized, encode_lower}
use Rattle.hex.proofs.HexLemmas.{decode_sized-encode_lower}
use Rattle.swim_record.proofs.Blocks.{deal_bytes}
use Rattle.swim_record.proofs.Events.{deal_is, deal_read}
use Rattle.swim_record.proofs.event.read_deal.Goals as goal

pub returns-in-Ok : goal.returns-in-Ok
returns-in-Ok c numbers is same =
    let word = c.in_ok-word.ensures (encode_lower numbers) same in
    let decoded : decode_sized c.in_ok-word.word.now 256 ≡ Ok numbers = ap (λ (w : List ℕ). decode_sized w 256) word ∙ decode_sized-encode_lower numbers 256 is.all (deal_bytes numbers is) in
    let read = deal_read c.decode_to_slice.result (decode_sized c.in_ok-word.word.now 256) c.decode_to_slice.new.out numbers decoded c.decode_to_slice.ensures.value in
    deal_is c.new.result c.decode_to_slice.new.out numbers c.new.ensures read.1 is

pub returns-in-Err : goal.returns-in-Err
returns-in-Err c numbers is same =
    let word = c.in_ok-word.ensures (encode_lower numbers) same in
    let decoded : decode_sized c.in_ok-word.word.now 256 ≡ Ok numbers = ap (λ (w : List ℕ). decode_sized w 256) word ∙ decode_sized-encode_lower numbers 256 is.all (deal_bytes numbers is) in
    let read = deal_read c.decode_to_slice.result (decode_sized c.in_ok-word.word.now 256) c.decode_to_slice.new.out numbers decoded c.decode_to_slice.ensures.value in
    let fault = c.in-Err.is in
    let fine = read.0 in
    absurd (cc)
