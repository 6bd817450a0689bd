use Rattle.std.proofs.Common.{rules, ◌≡◌, ◌+◌, [], ◌∷◌, ◌++◌, take, sym, ap, ◌∙◌}
use Rattle.std.proofs.lemmas.List.{take_more}
use Rattle.swim_settings.proofs.Texts.{AreTexts-append}
use Rattle.swim_settings.specs.declared.place.Place.{Place}
use Rattle.swim_settings.proofs.shown.texts_of.Goals as goal

pub loop-place-preserved : goal.loop-place-preserved
loop-place-preserved c =
    let es = c.args.places.now in
    let i = c.loop-place.place-index in
    let e = c.place-item.result in
    let more : take (i + 1) es ≡ take i es ++ e ∷ [] =
    take_more es i e c.loop-place-test.true ∙ ap (λ (y : Place). take i es ++ y ∷ []) (sym c.place-item.is) in
    rw (more, c.in_ok-push.ensures.items)
    (AreTexts-append c.loop-place.texts.items (take i es) c.in_ok-text.text e c.loop-place.invariant (search (rules, c.in_ok-text.ensures)))
