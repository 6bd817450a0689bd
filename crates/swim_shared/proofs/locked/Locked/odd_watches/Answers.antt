use Rattle.std.proofs.Common.{◌++◌, ◌∷◌, [], List, take, subst, arith, ap, sym, ◌∙◌}
use Rattle.std.proofs.lemmas.List.{take_more}
use Rattle.swim_node.specs.declared.entry.Entry.{Entry}
use Rattle.swim_shared.specs.Odd.{watch_fits, Each, WatchBegins}
use Rattle.swim_shared.proofs.Counting.{odd_step, whole}
use Rattle.swim_shared.proofs.locked.Locked.odd_watches.Goals as goal

pub loop-watch-preserved : goal.loop-watch-preserved
loop-watch-preserved g c =
    let j = c.args.self.now.journal in
    let xs = c.args.watches.now in
    let i = c.loop-watch.watch-index in
    let x = c.watch-item.result in
    let more = take_more xs i x c.loop-watch-test.true ∙ ap (λ (y : (List Entry)). take i xs ++ y ∷ []) (sym c.watch-item.is) in
    odd_step (λ (p : (List Entry)). watch_fits p j) (WatchBegins j) xs i x c.loop-watch.odd c.odd_watch-odd.result more c.odd_watch-odd.ensures.odd c.odd_watch-odd.ensures.begins c.loop-watch.invariant

pub returns-clause-begins : goal.returns-clause-begins
returns-clause-begins g c = subst (Each (WatchBegins c.args.self.now.journal)) (whole c.args.watches.now c.loop-watch.watch-index (omega arith)) c.loop-watch.invariant.2
