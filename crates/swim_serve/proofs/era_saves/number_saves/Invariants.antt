use Rattle.std.proofs.Common.{◌≡◌, ◌+◌, ◌≤◌, drop}
use Rattle.swim_serve.specs.EraCounts.{number_saves}
use Rattle.swim_serve.proofs.era_saves.number_saves.Given as goal

-- the saves so far, and those of the entries to come
abbrev pub invariant-loop-entry : goal.invariant-loop-entry
invariant-loop-entry l = record {
  found : l.count + number_saves (drop l.entry-index l.entries) ≡ number_saves l.entries;
  few : l.count ≤ l.entry-index;
}
