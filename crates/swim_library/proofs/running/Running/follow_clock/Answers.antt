use Rattle.std.proofs.Common.{Result, Ok, Err}
use Rattle.std.specs.Prelude.{IfOk, IsErrOf, OnErr}
use Rattle.swim_library.specs.declared.refusal.Refusal.TheVariants as why
use Rattle.swim_library.proofs.Turning.{follows, follows_in_vain}
use Rattle.swim_library.proofs.running.Running.follow_clock.Goals as goal

after_ok : {T E : Type 0} {P Q : T → Type 0} (result : Result T E) → ((t : T) → P t → Q t) → IfOk result P → IfOk result Q
after_ok (Ok value) gives p = gives value p
after_ok (Err fault) gives p = p

pub returns-clause-follows : goal.returns-clause-follows
returns-clause-follows c = after_ok c.seek.result (λ next seeks. follows _ _ _ _ _ next c.in_ok-due.ensures.advances seeks) c.seek.ensures.seeks

of_err : {T E : Type 0} {P : Type 0} (result : Result T E) (fault : E) → IsErrOf result fault → OnErr result P → P
of_err (Ok value) fault is p = absurd cc
of_err (Err other) fault is p = p

pub returns-clause-in_vain : goal.returns-clause-in_vain
returns-clause-in_vain c = λ lacks. follows_in_vain _ _ _ _ _ c.in_ok-due.ensures.advances (of_err c.seek.result why.NoMemory lacks c.seek.ensures.in_vain)
