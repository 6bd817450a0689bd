use Rattle.std.proofs.Common.{◌≡◌, sym, subst, refl, List, None}
use Rattle.swim_rules.specs.declared.table.Row.{Row}
use Rattle.swim_rules.specs.Rows.{AreAbove, AreInOrder}
use Rattle.swim_member.specs.contracts.member.Member.{the_view}
use Rattle.swim_member.specs.Resuming.{resume_fault}
use Rattle.swim_member.specs.State.{State}
use Rattle.swim_member.proofs.Passing.{none-kept}
use Rattle.swim_member.proofs.member.Member.state_resumes.Goals as goal

pub returns-clause-none : goal.returns-clause-none
returns-clause-none c =
    let above : AreAbove 0 c.self.inside.table.rows = subst (λ (rows : List Row). AreAbove 0 rows) c.rows.ensures.rows (c.begin_above_none.ensures (subst AreInOrder (sym c.rows.ensures.rows) c.rows.ensures.kept.order)) in
    subst (λ (s : State). resume_fault s ≡ None) c.self.view_is
    (none-kept (the_view c.self.inside) c.self.inside.table c.self.inside.buffer c.self.invariant.0 refl refl above c.queue_is_kept.ensures.within c.queue_is_kept.ensures.falling c.nobody_is_listed_twice.ensures)
