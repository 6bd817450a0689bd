use Rattle.std.proofs.Common.{rules, All, subst}
use Rattle.std.proofs.lemmas.List.{take_all}
use Rattle.swim_group.specs.Checking.{IsRemembered, MaySay}
use Rattle.swim_group.proofs.Naming.{all-more}
use Rattle.swim_group.proofs.checker.first_breach.Goals as goal

pub loop-i-preserved : goal.loop-i-preserved
loop-i-preserved c =
    let may : MaySay (IsRemembered c.args.told.now.entries) c.args.sender c.index-updates-i.result = search rules in
    all-more (MaySay (IsRemembered c.args.told.now.entries) c.args.sender) c.args.updates.now c.loop-i.i c.index-updates-i.result c.loop-i-test.true c.index-updates-i.is may c.loop-i.invariant

pub returns-clause-none : goal.returns-clause-none
returns-clause-none c =
    subst (All (MaySay (IsRemembered c.args.told.now.entries) c.args.sender)) (take_all c.loop-i.i c.args.updates.now c.loop-i-test.false) c.loop-i.invariant
