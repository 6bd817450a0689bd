use Rattle.std.proofs.Common.{◌≤◌, subst, sym}
use Rattle.std.specs.Prelude.{Some}
use Rattle.swim_shell.specs.Inbounds.{Takes}
use Rattle.swim_shell.proofs.Receiving.{receives_fault, receives_refused}
use Rattle.swim_shell.proofs.Running.{last_turn}
use Rattle.swim_shell.proofs.receiver.ReceiverWorker.turn.Goals as goal

pub returns-in-Ok-clause-end : goal.returns-in-Ok-clause-end
returns-in-Ok-clause-end g c =
    let many = subst (λ v. 16 ≤ v.row) c.self.view_is c.if-self-ge-FAILURES_MAX.true in
    λ s r n w. last_turn _ _ _ _ _ _ (receives_fault _ _ _ _ _ _ _ _ c.in_ok-taken.taken c.in_ok-taken.ensures.takes c.in_ok-taken.ensures.kept c.copy.ensures c.in-Ok.ensures.ok many) _ _ n w

pub returns-in-Err : goal.returns-in-Err
returns-in-Err g c =
    let taken = c.in_ok-taken.taken in
    let takes = subst (λ v. Takes g.I.Inbound.tells c.args.self.now v (Some taken)) (sym c.self.view_is) c.in_ok-taken.ensures.takes in
    record { on = tt; end = λ s r n w. last_turn _ _ _ _ _ _ (receives_refused _ _ c.in-Err.refusal _ _ _ _ _ taken _ takes c.kept_after-self-inside.ensures c.copy.ensures c.in-Err.ensures.err) _ _ n w }
