use Rattle.std.proofs.Common.{◌-◌, ◌++◌, ◌∙◌, List, length, min, refl, ap}
use Rattle.std.proofs.lemmas.List.{take_all}
use Rattle.swim_member.specs.declared.answer.Out.{Out as Outs}
use Rattle.swim_group.proofs.Holding.{kept-room}
use Rattle.swim_group.proofs.step.keep.Goals as goal

pub returns-clause-kept : goal.returns-clause-kept
returns-clause-kept c =
    c.loop-out.invariant.copied
    ∙ ap (λ (os : List Outs). c.args.kept.now.items ++ os) (take_all c.loop-out.out-index _ c.loop-out-test.false ∙ c.loop-out.invariant.some)
    ∙ kept-room c.args.kept.now.items c.args.outs.now.items c.args.room (min (length c.args.outs.now.items) (c.args.room - length c.args.kept.now.items)) c.requires.within refl
