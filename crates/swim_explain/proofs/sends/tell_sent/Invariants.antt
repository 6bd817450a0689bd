use Rattle.std.proofs.Common.{◌≡◌, ◌++◌, drop}
use Rattle.swim_explain.specs.Facts.{sent}
use Rattle.swim_explain.proofs.sends.tell_sent.Given as goal

-- what was told, and what is left
abbrev pub invariant-loop-place : goal.invariant-loop-place
invariant-loop-place l = l.facts.items ++ sent l.who l.purpose (drop l.place l.outs) (drop l.place l.outcomes) ≡ l.initial.facts.items ++ sent l.who l.purpose l.outs l.outcomes
