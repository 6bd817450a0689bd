use Rattle.std.proofs.lemmas.Bool.{eqb-true}
use Rattle.std.specs.Prelude.{◌==◌, true}
use Rattle.std.proofs.Common.{◌≡◌, ◌+◌, [], ◌∷◌, ◌++◌, length, take, sym, ap, ◌∙◌, arith, length-append}
use Rattle.std.proofs.lemmas.List.{take_more}
use Rattle.std.proofs.lemmas.List.Elements.{All-append, All-cons, All-nil}
use Rattle.toml.specs.declared.value.Value.{Value}
use Rattle.swim_settings.specs.Says.{IsPlace}
use Rattle.swim_settings.proofs.Texts.{AreTexts-append, AreTexts-length, no_place}
use Rattle.swim_settings.proofs.value.places_in.Goals as goal

pub loop-item-preserved : goal.loop-item-preserved
loop-item-preserved g c =
    let xs = c.args.items.now in
    let i = c.loop-item.item-index in
    let x = c.item-item.result in
    let more : take (i + 1) xs ≡ take i xs ++ x ∷ [] =
    take_more xs i x c.loop-item-test.true ∙ ap (λ (y : Value). take i xs ++ y ∷ []) (sym c.item-item.is) in
    let so_far = c.loop-item.invariant in
    record {
      texts = rw (more, c.push.ensures.items) (AreTexts-append (take i xs) c.loop-item.places.items x c.in_ok-place.place so_far.texts c.in_ok-place.ensures.text);
      places = rw c.push.ensures.items (All-append IsPlace c.loop-item.places.items (c.in_ok-place.place ∷ []) so_far.places (All-cons IsPlace c.in_ok-place.place [] c.in_ok-place.ensures.place (All-nil IsPlace)));
      many = ap length c.push.ensures.items ∙ length-append c.loop-item.places.items (c.in_ok-place.place ∷ []) ∙ ap (λ n. n + 1) so_far.many;
    }

pub returns-in_err-place-clause-none : goal.returns-in_err-place-clause-none
returns-in_err-place-clause-none g c =
    rw c.from_residual.ensures
    (λ places texts all. absurd (no_place c.args.items.now places c.loop-item.item-index c.item-item.result c.loop-item-test.true c.item-item.is c.in_err-place.ensures.none texts all))

pub returns-then-is_full-clause-none : goal.returns-then-is_full-clause-none
returns-then-is_full-clause-none g c places texts all =
    let long = AreTexts-length c.args.items.now places texts in
    let many = c.loop-item.invariant.many in
    let less = c.loop-item-test.true in
    let is : true ≡ (length c.loop-item.places.items == g.row.N) = sym c.if-is_full.true ∙ c.is_full.ensures.value in
    let full : length c.loop-item.places.items ≡ g.row.N = eqb-true (length c.loop-item.places.items) g.row.N (sym is) in
    omega (arith, long, many, less, full)
