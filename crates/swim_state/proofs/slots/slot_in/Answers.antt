use Rattle.std.proofs.Common.{◌≡◌, ◌∙◌, ◌+◌, ◌-◌, ap, arith, sym, ℕ, List, get_or, take, drop}
use Rattle.swim_state.specs.File.{layout_of, slot_reading, reading_at}
use Rattle.swim_state.specs.Layout.{bytes_from}
use Rattle.swim_state.proofs.Standing.{past_the_end}
use Rattle.swim_state.proofs.slots.slot_in.Goals as goal

pub returns-then-gate-image : goal.returns-then-gate-image
returns-then-gate-image c = sym (past_the_end (layout_of c.args.version) c.args.image.now c.args.slot (omega (arith, c.if-gate-image.true, c.gate-gate.ensures)))

pub returns : goal.returns
unfolding reading_at
returns c =
    let image = c.args.image.now in
    let layout = layout_of c.args.version in
    let at = c.body-at.result in
    let size : at + c.body_size.result - at ≡ c.body_size.result = omega arith in
    let body : take (at + c.body_size.result - at) (drop at image) ≡ bytes_from image (layout.body_at c.args.slot) layout.body_size =
    ap (λ n. take n (drop at image)) (size ∙ c.body_size.ensures) ∙ ap (λ i. bytes_from image i layout.body_size) c.body-at.ensures in
    c.of.ensures.reading ∙ ap (λ i. slot_reading layout (get_or image i 0) (take (at + c.body_size.result - at) (drop at image))) c.gate-gate.ensures
    ∙ ap (λ (l : List ℕ). slot_reading layout (get_or image (layout.gate_at c.args.slot) 0) l) body
