use Rattle.std.proofs.Common.{sym, ap, ◌∙◌, []}
use Rattle.swim_member.specs.contracts.member.Member.{the_view}
use Rattle.swim_member.specs.State.{State}
use Rattle.swim_member.specs.Events.{state_of}
use Rattle.swim_member.proofs.Bases.{base-itself}
use Rattle.swim_member.proofs.member.Member.base.Goals as goal

pub returns-clause-reads : goal.returns-clause-reads
returns-clause-reads c =
    ap (λ (s : State). state_of s []) (sym c.self.view_is)
    ∙ base-itself (the_view c.self.inside) c.self.invariant.0.table.order c.self.invariant.0.wait.apart c.self.invariant.0.live
    ∙ c.self.view_is
