use Rattle.std.proofs.Common.{◌∙◌, sym, ap, arith, slice_get}
use Rattle.std.specs.Option.{is_some}
use Rattle.swim_member.proofs.Dealing.{distinct-dealt, distinct-names, first-within}
use Rattle.swim_member.proofs.turn.TurnList.begin.Goals.{then-is_some, else-is_some}
use Rattle.swim_member.proofs.turn.TurnList.begin.Goals as goal

pub invariant_of-self : goal.invariant_of-self
invariant_of-self c = record {
  once = rw (c.deal_out-self-inside.ensures.dealt, c.deref.ensures.0, c.eligible_names.ensures, c.rows.ensures.rows)
      (distinct-dealt _ (distinct-names c.args.table.now.rows c.rows.ensures.kept.order) _ c.deal_out-self-inside.ensures.kept.once);
  within = elim c.if-is_some.branch [
    | then-is_some w ↦ rw w.self-is (first-within c.deal_out-self-inside.result.items
        (ap (λ xs. is_some (slice_get xs 0)) (sym c.deref-2.ensures.0) ∙ ap is_some (sym c.first.ensures.value) ∙ ap is_some (sym c.copied-first.ensures) ∙ sym c.is_some.ensures ∙ w.if-is_some.true))
    | else-is_some w ↦ rw w.self-is (omega arith)
  ];
}
