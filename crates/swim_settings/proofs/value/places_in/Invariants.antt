use Rattle.std.proofs.Common.{◌≡◌, All, length, take}
use Rattle.toml.specs.View.{items_view}
use Rattle.swim_settings.specs.Says.{AreTexts, IsPlace}
use Rattle.swim_settings.proofs.value.places_in.Given as goal

abbrev pub invariant-loop-item : goal.invariant-loop-item
invariant-loop-item g l = record {
  texts : AreTexts (items_view (take l.item-index l.items)) l.places.items;
  places : All IsPlace l.places.items;
  many : length l.places.items ≡ l.item-index;
}
