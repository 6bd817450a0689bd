use Rattle.std.proofs.Common.{◌≡◌, ◌++◌, drop}
use Rattle.swim_explain.specs.Facts.{told_itself}
use Rattle.swim_explain.proofs.datagrams.tell_itself.Given as goal

-- what was told, and what is left
abbrev pub invariant-loop-update : goal.invariant-loop-update
invariant-loop-update l = l.facts.items ++ told_itself l.who l.by (drop l.update-index l.updates) ≡ l.initial.facts.items ++ told_itself l.who l.by l.updates
