use Rattle.std.proofs.Common.{take}
use Rattle.toml.specs.View.{items_view}
use Rattle.swim_settings.specs.Says.{AreTexts}
use Rattle.swim_settings.proofs.shown.texts_of.Given as goal

abbrev pub invariant-loop-place : goal.invariant-loop-place
invariant-loop-place l = AreTexts (items_view l.texts.items) (take l.place-index l.places)
