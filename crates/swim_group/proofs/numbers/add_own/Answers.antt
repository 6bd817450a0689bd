use Rattle.std.proofs.Common.{rules, ◌+◌, ◌∙◌, List, ℕ, take, ap, subst, sym}
use Rattle.std.specs.List.Sorted.{IsNonDecreasing}
use Rattle.std.proofs.lemmas.Bool.{eqb-true, eqb-false}
use Rattle.std.proofs.lemmas.List.{take_all}
use Rattle.swim_wire.specs.declared.update.Update.{Update}
use Rattle.swim_group.specs.Checking.{IsAdded}
use Rattle.swim_group.proofs.Checking.{added-other, added-own}
use Rattle.swim_group.proofs.Naming.{take-last}
use Rattle.swim_group.proofs.numbers.add_own.Goals.{then-eq, else-eq}
use Rattle.swim_group.proofs.numbers.add_own.Goals as goal

pub loop-i-preserved : goal.loop-i-preserved
loop-i-preserved c =
    let more = take-last c.args.updates.now c.loop-i.i c.index-updates-i.result c.loop-i-test.true c.index-updates-i.is in
    let added : List ℕ → List Update → Type 0 = λ new us. IsAdded c.args.rising.now.items c.args.who us new in
    elim c.if-eq.branch [
      | then-eq w ↦ record {
        sorted = subst IsNonDecreasing (sym (ap (λ r. r.items) w.rising-is)) w.add.ensures.sorted;
        added = subst (λ new. added new (take (c.loop-i.i + 1) c.args.updates.now)) (sym (ap (λ r. r.items) w.rising-is))
            (subst (added w.add.new.rising.items) (sym more)
            (added-own c.args.rising.now.items c.loop-i.rising.items w.add.new.rising.items c.args.who (take c.loop-i.i c.args.updates.now) c.index-updates-i.result (eqb-true c.index-updates-i.result.who c.args.who (sym c.eq.ensures ∙ w.if-eq.true)) c.loop-i.invariant.added w.add.ensures.added));
        memory = search rules;
      }
      | else-eq w ↦ record {
        sorted = subst IsNonDecreasing (sym (ap (λ r. r.items) w.rising-is)) c.loop-i.invariant.sorted;
        added = subst (λ new. added new (take (c.loop-i.i + 1) c.args.updates.now)) (sym (ap (λ r. r.items) w.rising-is))
            (subst (added c.loop-i.rising.items) (sym more)
            (added-other c.args.rising.now.items c.loop-i.rising.items c.args.who (take c.loop-i.i c.args.updates.now) c.index-updates-i.result (eqb-false c.index-updates-i.result.who c.args.who (sym c.eq.ensures ∙ w.if-eq.false)) c.loop-i.invariant.added));
        memory = search rules;
      }
    ]

pub returns-clause-added : goal.returns-clause-added
returns-clause-added c =
    subst (λ (us : List Update). IsAdded c.args.rising.now.items c.args.who us c.loop-i.rising.items) (take_all c.loop-i.i c.args.updates.now c.loop-i-test.false) c.loop-i.invariant.added
