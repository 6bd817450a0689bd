use Rattle.std.proofs.Common.{◌≡◌, List, [], ◌∙◌, ap, max, arith, sym, subst, slice_set}
use Rattle.swim_member.specs.declared.answer.Out.{Out as Outs}
use Rattle.swim_member.specs.State.{State}
use Rattle.swim_member.specs.Events.{state_of}
use Rattle.swim_group.specs.Real.{HasRun}
use Rattle.swim_group.proofs.Holding.{ran-on, same-at, goes-on}
use Rattle.swim_group.proofs.step.happen.Goals as goal

pub returns-clause-run : goal.returns-clause-run
returns-clause-run c h =
    subst (λ (ks : List Outs). HasRun (slice_set c.args.members.now.items c.args.member c.step-answer.new.self) ks) (sym c.keep.ensures.kept)
    (ran-on c.args.members.now.items c.args.kept.now.items c.args.member c.args.event.now c.max-ceiling.result c.index_mut.result.now c.step-answer.new.self c.step-answer.result c.args.room
    c.requires.there c.index_mut.ensures.value c.requires.sent c.step-answer.ensures.state c.step-answer.ensures.answer c.step-answer.ensures.fit h)

pub returns-clause-event : goal.returns-clause-event
returns-clause-event c =
    let first : c.index.result.now ≡ c.index_mut.result.now = same-at c.args.members.now.items c.args.member c.index.result.now c.index_mut.result.now c.requires.there c.index.ensures c.index_mut.ensures.value in
    let second : c.index-2.result.now ≡ c.index_mut.result.now = same-at c.args.members.now.items c.args.member c.index-2.result.now c.index_mut.result.now c.requires.there c.index-2.ensures c.index_mut.ensures.value in
    let number : c.number.result ≡ c.index_mut.result.now.number = c.number.ensures ∙ ap (λ (s : State). s.number) first in
    let ceiling : c.max-ceiling.result ≡ max c.args.granted c.index_mut.result.now.number = omega arith in
    goes-on c.args.members.now.items c.args.kept.now.items c.keep.new.kept.items c.args.room c.args.member c.args.event.now c.args.granted c.max-ceiling.result c.index_mut.result.now c.step-answer.new.self c.step-answer.result
    c.requires.there c.index_mut.ensures.value (subst (λ (s : State). state_of s [] ≡ s) second c.history_may_go_on.ensures) ceiling c.step-answer.ensures.state c.step-answer.ensures.answer c.keep.ensures.kept
