use Rattle.std.proofs.Common.{◌≡◌, ◌+◌, [], ◌∷◌, ◌++◌, take, sym, ap, ◌∙◌}
use Rattle.std.proofs.lemmas.List.{take_more}
use Rattle.swim_wire.specs.declared.update.Update.{Update}
use Rattle.swim_http.specs.Members.{state_sample}
use Rattle.swim_http.proofs.Texts.{more_written}
use Rattle.swim_http.proofs.members.write_each.Goals as goal

-- one more of them
pub loop-row-preserved : goal.loop-row-preserved
loop-row-preserved c =
    let rows = c.args.rows.now in
    let i = c.loop-row.row-index in
    let row = c.row-item.result in
    let more : take (i + 1) rows ≡ take i rows ++ row ∷ [] =
    take_more rows i row c.loop-row-test.true ∙ ap (λ (r : Update). take i rows ++ r ∷ []) (sym c.row-item.is) in
    more_written (state_sample c.args.group) c.args.text.now.bytes.items c.loop-row.text.bytes.items c.write_state.new.text.bytes.items (take i rows) (take (i + 1) rows) row c.loop-row.invariant c.in_ok-write_state.ensures more
