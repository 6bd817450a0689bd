use Rattle.swim_simulate.specs.Running.{HandsNothing}
use Rattle.swim_simulate.proofs.run.Run.read_rows.Given as goal

-- only rows are read
abbrev pub invariant-loop : goal.invariant-loop
invariant-loop l = HandsNothing l.initial.self.watched l.self.watched
