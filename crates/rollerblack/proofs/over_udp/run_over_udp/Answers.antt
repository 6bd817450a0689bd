use Rattle.std.proofs.Common.{subst, sym}
use Rattle.std.proofs.lemmas.Bool.{false≢true}
use Rattle.swim_wire.specs.Numbers.{IsNoMembers}
use Rattle.swim_start.proofs.Outcomes.{of_refused}
use Rattle.swim_state.proofs.Steps.{always_ok}
use Rattle.rollerblack.proofs.Starting.{without_memory}
use Rattle.rollerblack.proofs.over_udp.run_over_udp.Goals as goal

pub returns-in-Ok-open-clause-address : goal.returns-in-Ok-open-clause-address
returns-in-Ok-open-clause-address g c =
    always_ok _ c.live.result (λ nobody. false≢true (c.if-is_no_members.ensures.1 (subst IsNoMembers (sym c.address.ensures) nobody)))

pub returns-in-Ok-open-clause-lived : goal.returns-in-Ok-open-clause-lived
returns-in-Ok-open-clause-lived g c = c.live.ensures.lived c.args.disk c.in-Ok-open.ensures.opens.begins c.in-Ok-open.ensures.opens.living

pub returns-in-Ok-open-clause-refused : goal.returns-in-Ok-open-clause-refused
returns-in-Ok-open-clause-refused g c =
    of_refused c.live.result _ _ c.live.ensures.left
    (λ refused at. without_memory g.D.Disk.keeps_model g.D.Disk.state c.args.member.settings c.args.member.limit c.args.disk refused.0 c.in-Ok-open.node.disk refused.1 at.0 at.1 c.in-Ok-open.ensures.file.moments)
