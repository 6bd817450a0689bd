use Rattle.std.proofs.Common.{rules, ◌≡◌, ◌∙◌, ◌≤◌, ◌+◌, drop, length, ap, subst, sym}
use Rattle.swim_member.specs.declared.answer.Out.{Out as Outs}
use Rattle.swim_simulate.specs.Laws.{LawView, PassesNext, PassesAll}
use Rattle.swim_simulate.proofs.Watching.{drop-at, drop-past, err-then, ok-then, passes-closed, passes-more, passes-none}
use Rattle.swim_simulate.proofs.watched.look_on.Goals as goal

pub returns-then-is_err : goal.returns-then-is_err
returns-then-is_err c =
    let same : c.look.new.self ≡ c.loop-index.law = err-then c.look.result (c.look.new.self ≡ c.loop-index.law) (sym c.is_err.ensures.value ∙ c.if-is_err.true) c.look.ensures.err in
    c.loop-index.invariant c.close.new.self (passes-closed c.loop-index.law c.close.new.self (drop c.loop-index.index c.args.kept.now) c.close.ensures.told (c.close.ensures.stop ∙ ap (λ (v : LawView). v.stop) same))

pub loop-index-preserved : goal.loop-index-preserved
loop-index-preserved c new rest =
    let one : PassesNext c.loop-index.law c.look.new.self c.index-kept-index.result.datagram =
    subst (λ (o : Outs). PassesNext c.loop-index.law c.look.new.self o.datagram) (sym c.index-kept-index.is)
    (ok-then c.look.result _ (sym c.is_err.ensures.value ∙ c.if-is_err.false) c.look.ensures.passes) in
    c.loop-index.invariant new
    (subst (PassesAll c.loop-index.law new) (sym (drop-at c.args.kept.now c.loop-index.index c.index-kept-index.result c.loop-index-test.true c.index-kept-index.is))
    (passes-more c.loop-index.law c.look.new.self new c.index-kept-index.result (drop (c.loop-index.index + 1) c.args.kept.now) one rest))

pub returns : goal.returns
returns c =
    let past : length c.args.kept.now ≤ c.loop-index.index = search rules in
    c.loop-index.invariant c.loop-index.law
    (subst (PassesAll c.loop-index.law c.loop-index.law) (sym (drop-past c.args.kept.now c.loop-index.index past)) (passes-none c.loop-index.law))
