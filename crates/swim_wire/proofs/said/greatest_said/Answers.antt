use Rattle.std.proofs.Common.{◌∙◌, ◌*◌, drop, max, refl, sym, ap}
use Rattle.std.proofs.lemmas.List.{drop-drop}
use Rattle.swim_wire.specs.Updates.{update_of}
use Rattle.swim_wire.specs.Reading.{updates_of}
use Rattle.swim_wire.specs.Said.{number_of, greatest_said}
use Rattle.swim_wire.proofs.Updates.{updates_of-more}
use Rattle.swim_wire.proofs.Saying.{greatest_said-more}
use Rattle.swim_wire.proofs.said.greatest_said.Goals as goal

pub loop-i-init : goal.loop-i-init
unfolding updates_of
loop-i-init c = refl

pub loop-i-preserved : goal.loop-i-preserved
loop-i-preserved c =
    let me = c.args.about in
    let i = c.loop-i.i in
    let behind = drop 32 c.args.bytes.now in
    let text = c.update_at.ensures.text ∙ sym (drop-drop (16 * i) 32 c.args.bytes.now) in
    let number = c.number_of.ensures ∙ ap (λ t. number_of me (update_of t)) text in
    c.max-greatest.ensures
    ∙ (λ k. max (number k) (c.loop-i.invariant k))
    ∙ sym (greatest_said-more me (updates_of i behind) (update_of (drop (16 * i) behind)))
    ∙ ap (greatest_said me) (sym (updates_of-more i behind))
