use Rattle.std.proofs.Common.{◌≡◌, ◌+◌, [], ◌∷◌, ◌++◌, take, sym, ap, ◌∙◌}
use Rattle.std.proofs.lemmas.List.{take_more}
use Rattle.swim_news.specs.declared.change.Change.{Change}
use Rattle.swim_join.proofs.news_log.log_all.Goals as goal
use Rattle.std.proofs.lemmas.List.{append_assoc}

-- one more change
pub loop-change-preserved : goal.loop-change-preserved
loop-change-preserved g c =
    let all = c.args.changes.now in
    let i = c.loop-change.change-index in
    let change = c.change-item.result in
    let more : take (i + 1) all ≡ take i all ++ change ∷ [] =
    take_more all i change c.loop-change-test.true ∙ ap (λ (x : Change). take i all ++ x ∷ []) (sym c.change-item.is) in
    c.and.ensures ∙ (ap (λ w. w ++ change ∷ []) c.loop-change.invariant ∙ (append_assoc c.args.told.now (take i all) (change ∷ []) ∙ ap (λ w. c.args.told.now ++ w) (sym more)))
