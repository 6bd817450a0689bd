use Rattle.swim_shell.specs.Work.{Running}
use Rattle.swim_shell.proofs.worker.run.Given as goal

-- the turns so far
abbrev pub invariant-loop : goal.invariant-loop
invariant-loop g l =
    let known = g.C.Caller.known in
    let turns = g.G.Gate.turns in
    Running g.K.Worker.worked l.fn.worker (known l.initial.caller) l.worker (known l.caller) g.G.Gate.tells (turns l.initial.gate) (turns l.gate)
