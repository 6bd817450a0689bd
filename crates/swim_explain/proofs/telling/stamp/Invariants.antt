use Rattle.std.proofs.Common.{◌≡◌, ◌++◌, drop, map}
use Rattle.swim_explain.specs.Story.{stamped}
use Rattle.swim_explain.proofs.telling.stamp.Given as goal

-- what was stamped, and what is left
abbrev pub invariant-loop-fact : goal.invariant-loop-fact
invariant-loop-fact l = l.told.items ++ map (stamped l.call l.tick) (drop l.fact-index l.facts) ≡ l.initial.told.items ++ map (stamped l.call l.tick) l.facts
