use Rattle.std.proofs.Common.{◌≡◌, ◌∙◌, ◌++◌, ◌∷◌, ◌+◌, ◌*◌, [], length, take, drop, sym, ap, subst, arith, append-nil, length-append, length-take, All}
use Rattle.std.specs.List.{flat_map}
use Rattle.std.proofs.lemmas.List.{take_more, flat_map_more, take-append-drop}
use Rattle.std.proofs.lemmas.List.Elements.{All-push}
use Rattle.swim_wire.specs.Numbers.{IsEndpoint}
use Rattle.swim_wire.specs.Updates.{update_text}
use Rattle.swim_wire.proofs.Texts.{put_behind}
use Rattle.swim_wire.proofs.Updates.{length-updates}
use Rattle.swim_wire.proofs.writing.put_updates.Goals as goal

pub loop-i-init : goal.loop-i-init
loop-i-init c = record {
  text = sym (ap (λ head. head ++ drop 32 c.args.room.now) (append-nil (take 32 c.args.room.now)) ∙ take-append-drop 32 c.args.room.now);
  members = λ k d lt. absurd (omega arith);
}

pub loop-i-preserved : goal.loop-i-preserved
loop-i-preserved c =
    let room = c.args.room.now in
    let update = c.index-updates-i.result in
    let before = take c.loop-i.i c.args.updates.now in
    let front = take 32 room ++ flat_map update_text before in
    let at = 32 + 16 * c.loop-i.i in
    let long : length front ≡ at = omega (arith, length-append (take 32 room) (flat_map update_text before), length-take 32 room, length-updates before, length-take c.loop-i.i c.args.updates.now) in
    let more : take (c.loop-i.i + 1) c.args.updates.now ≡ before ++ update ∷ [] =
    take_more c.args.updates.now c.loop-i.i update c.loop-i-test.true
    ∙ ap (λ u. before ++ u ∷ []) (sym c.index-updates-i.is) in
    let bytes = update_text update in
    record {
      text = c.put.ensures.text
          ∙ (λ i. take at (c.loop-i.invariant.text i) ++ c.to_bytes.ensures.text i ++ drop (at + length (c.to_bytes.ensures.text i)) (c.loop-i.invariant.text i))
          ∙ put_behind front bytes room at (32 + 16 * (c.loop-i.i + 1)) long (omega arith)
          ∙ (λ i. (flat_map_more update_text (take 32 room) before update ∙ ap (λ us. take 32 room ++ flat_map update_text us) (sym more)) i ++ drop (32 + 16 * (c.loop-i.i + 1)) room);
      members = subst (All (λ u. IsEndpoint u.who)) (sym more) (All-push (λ u. IsEndpoint u.who) before update c.loop-i.invariant.members c.to_bytes.ensures.who);
    }
