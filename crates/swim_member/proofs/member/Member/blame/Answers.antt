use Rattle.std.proofs.Common.{◌≤◌, ◌^◌, ap, sym, ◌∙◌}
use Rattle.swim_wire.specs.declared.update.Update.{Update}
use Rattle.swim_rules.specs.Rules.{is_about}
use Rattle.swim_rules.proofs.Changes.{found_other}
use Rattle.swim_member.specs.State.{State}
use Rattle.swim_member.proofs.Lows.{low-found}
use Rattle.swim_member.proofs.member.Member.blame.Goals as goal

pub hear_other-requires-clause-other : goal.hear_other-requires-clause-other
hear_other-requires-clause-other c e =
    found_other (is_about c.in-Some.probe.target) c.self.inside.table.me c.self.inside.table.rows c.in-Some-get.row (sym c.get.ensures.row ∙ c.in-Some-get.is) c.self.invariant.0.table.others
    (ap (λ (u : Update). u.who) (sym c.suspect_of.ensures) ∙ e ∙ ap (λ (s : State). s.settings.me) (sym c.self.view_is) ∙ sym c.self.invariant.0.me)

pub hear_other-requires-clause-number : goal.hear_other-requires-clause-number
hear_other-requires-clause-number c =
    let low : c.in-Some-get.row.update.number ≤ 2 ^ 62 = low-found c.self.inside.settings.me (is_about c.in-Some.probe.target) c.self.inside.table.rows c.in-Some-get.row c.self.invariant.0.stand (sym c.get.ensures.row ∙ c.in-Some-get.is) in
    rw c.suspect_of.ensures low
