use Rattle.std.proofs.Common.{◌≡◌, ◌≤◌, drop, min}
use Rattle.swim_rules.specs.Machinery.Tallies.{earliest}
use Rattle.swim_rules.proofs.tally.earliest.Given as goal

-- the earliest is that so far, or one of the rows to come
abbrev pub invariant-loop-row : goal.invariant-loop-row
invariant-loop-row l = record {
  found : min l.since (earliest l.kind (drop l.row-index l.rows)) ≡ earliest l.kind l.rows;
  fits : l.since ≤ 18446744073709551615;
}
