use Rattle.std.proofs.Common.{◌≡◌, ◌∙◌, ◌++◌, ◌+◌, ◌*◌, length, take, drop, ap, subst, arith, length-append, All}
use Rattle.std.specs.List.{flat_map}
use Rattle.std.proofs.lemmas.List.{take_at}
use Rattle.swim_wire.specs.Numbers.{IsEndpoint}
use Rattle.swim_wire.specs.Spelling.{head_text}
use Rattle.swim_wire.specs.Updates.{update_text}
use Rattle.swim_wire.proofs.Updates.{length-updates}
use Rattle.swim_wire.proofs.writing.encode_into.Goals as goal

pub returns-clause-text : goal.returns-clause-text
returns-clause-text c =
    let d = c.args.datagram.now in
    let us = d.updates.items in
    let n = length us in
    let updates = flat_map update_text us in
    let behind = drop (32 + 16 * n) c.put.new.room in
    let long_head : length (head_text d) ≡ 32 = omega arith in
    let first : c.put.new.room ≡ head_text d ++ drop 32 c.args.room.now = c.put.ensures.text ∙ (λ i. c.head_bytes.ensures.text i ++ drop (0 + length (c.head_bytes.ensures.text i)) c.args.room.now) in
    let head : take 32 c.put.new.room ≡ head_text d = ap (take 32) first ∙ take_at (head_text d) (drop 32 c.args.room.now) 32 long_head in
    let long : length (head_text d ++ updates) ≡ 32 + 16 * n = omega (arith, length-append (head_text d) updates, length-updates us) in
    let whole : c.put_updates.new.room ≡ head_text d ++ updates ++ behind = c.put_updates.ensures.text ∙ (λ i. head i ++ flat_map update_text (c.as_slice.ensures.value i) ++ drop (32 + 16 * length (c.as_slice.ensures.value i)) c.put.new.room) in
    let members = subst (All (λ u. IsEndpoint u.who)) c.as_slice.ensures.value c.put_updates.ensures.members in
    record {
      fits = record {
        head = c.head_bytes.ensures.fits;
        zero_subject = c.requires.text.0;
        updates = λ k u lt. record { who = members k u lt; number = c.requires.text.1 k u lt };
      };
      text = (λ i. take (32 + 16 * c.len.ensures.value i) (whole i)) ∙ take_at (head_text d ++ updates) behind (32 + 16 * n) long;
    }
