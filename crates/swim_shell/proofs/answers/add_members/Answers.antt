use Rattle.std.proofs.Common.{◌≡◌, ◌+◌, [], ◌∷◌, ◌++◌, take, sym, ap, ◌∙◌, arith}
use Rattle.std.proofs.lemmas.List.{take_more}
use Rattle.swim_wire.specs.declared.update.Update.{Update}
use Rattle.swim_shell.proofs.Writing.{row_written}
use Rattle.swim_shell.proofs.answers.add_members.Goals as goal

-- one more row
pub loop-row-preserved : goal.loop-row-preserved
loop-row-preserved c =
    let page = c.args.page.now in
    let i = c.loop-row.row-index in
    let row = c.row-item.result in
    let more : take (i + 1) page ≡ take i page ++ row ∷ [] =
    take_more page i row c.loop-row-test.true ∙ ap (λ (r : Update). take i page ++ r ∷ []) (sym c.row-item.is) in
    let few = c.requires.few in
    let there = c.loop-row-test.true in
    let added = c.add_row.ensures.fits (omega (arith, few, there, c.loop-row.invariant.short)) in
    record {
      text = row_written c.add_count.new.answer.bytes c.loop-row.answer.bytes c.add_row.new.answer.bytes (take i page) (take (i + 1) page) row c.loop-row.invariant.text added more;
      short = omega (arith, c.loop-row.invariant.short, c.add_row.ensures.most);
    }
