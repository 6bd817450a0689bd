use Rattle.swim_join.proofs.Asking.{LooksSoFar}
use Rattle.swim_join.proofs.look.look.Given as goal

-- the pages so far
abbrev pub invariant-loop : goal.invariant-loop
invariant-loop g l = let known = g.C.Caller.known in LooksSoFar l.initial.rows (known l.initial.caller) (known l.caller) l.rows l.counter
