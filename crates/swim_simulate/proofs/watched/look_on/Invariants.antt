use Rattle.std.proofs.Common.{drop}
use Rattle.swim_simulate.specs.Laws.{LawView, PassesAll}
use Rattle.swim_simulate.proofs.watched.look_on.Given as goal

-- with what passes from here on, all passes from the first on
abbrev pub invariant-loop-index : goal.invariant-loop-index
invariant-loop-index l = (new : LawView) → PassesAll l.law new (drop l.index l.kept) → PassesAll l.initial.law new (drop l.first l.kept)
