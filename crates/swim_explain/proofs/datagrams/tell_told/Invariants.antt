use Rattle.std.proofs.Common.{◌≡◌, ◌++◌, drop}
use Rattle.swim_explain.specs.Facts.{told}
use Rattle.swim_explain.proofs.datagrams.tell_told.Given as goal

-- what was told, and what is left by the row as it stands now
abbrev pub invariant-loop-update : goal.invariant-loop-update
invariant-loop-update l = l.facts.items ++ told l.hearing.rules l.who l.hearing.by l.hearing.full l.hearing.tick l.row (drop l.update-index l.updates) ≡ l.initial.facts.items ++ told l.hearing.rules l.who l.hearing.by l.hearing.full l.hearing.tick l.fn.before l.updates
