use Rattle.std.proofs.Common.{◌++◌, ◌∷◌, [], take, subst, arith, ap, sym, ◌∙◌}
use Rattle.std.proofs.lemmas.List.{take_more}
use Rattle.swim_shared.specs.Passes.{PassView}
use Rattle.swim_shared.specs.Odd.{is_in_step, Each, Begins}
use Rattle.swim_shared.proofs.Counting.{odd_step, whole}
use Rattle.swim_shared.proofs.locked.Locked.odd_passes.Goals as goal

pub loop-pass-preserved : goal.loop-pass-preserved
loop-pass-preserved g c =
    let j = c.args.self.now.journal in
    let xs = c.args.passes.now in
    let i = c.loop-pass.pass-index in
    let x = c.pass-item.result in
    let more = take_more xs i x c.loop-pass-test.true ∙ ap (λ (y : PassView). take i xs ++ y ∷ []) (sym c.pass-item.is) in
    odd_step (λ (p : PassView). is_in_step p j) (Begins j) xs i x c.loop-pass.odd c.odd_pass-odd.result more c.odd_pass-odd.ensures.odd c.odd_pass-odd.ensures.begins c.loop-pass.invariant

pub returns-clause-begins : goal.returns-clause-begins
returns-clause-begins g c = subst (Each (Begins c.args.self.now.journal)) (whole c.args.passes.now c.loop-pass.pass-index (omega arith)) c.loop-pass.invariant.2
