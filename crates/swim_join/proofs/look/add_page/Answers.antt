use Rattle.std.proofs.Common.{◌≡◌, ◌+◌, [], ◌∷◌, ◌++◌, take, sym, ap, ◌∙◌}
use Rattle.std.proofs.lemmas.List.{take_more}
use Rattle.swim_wire.specs.declared.update.Update.{Update}
use Rattle.swim_join.proofs.Asking.{shown_added, all_added}
use Rattle.swim_join.proofs.look.add_page.Goals as goal

-- one more row
pub loop-row-preserved : goal.loop-row-preserved
loop-row-preserved c =
    let page = c.args.page.now in
    let i = c.loop-row.row-index in
    let row = c.row-item.result in
    let more : take (i + 1) page ≡ take i page ++ row ∷ [] =
    take_more page i row c.loop-row-test.true ∙ ap (λ (r : Update). take i page ++ r ∷ []) (sym c.row-item.is) in
    record {
      shown = shown_added c.args.rows.now c.loop-row.rows c.add.new.self page i row c.add.result c.loop-row.invariant.shown c.add.ensures.added c.add.ensures.refused more;
      all = all_added c.args.rows.now c.loop-row.rows c.add.new.self page i row c.add.result c.loop-row.invariant.all c.add.ensures.added c.add.ensures.fits more;
    }
