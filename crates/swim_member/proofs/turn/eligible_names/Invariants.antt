use Rattle.std.proofs.Common.{◌≡◌, ◌≤◌, ◌++◌, map, drop, length}
use Rattle.std.specs.List.{filter}
use Rattle.swim_rules.specs.Rows.{is_eligible}
use Rattle.swim_member.specs.Member.{row_name}
use Rattle.swim_member.proofs.turn.eligible_names.Given as goal

-- the members that are there and those of the rows to come are all
abbrev pub invariant-loop-row : goal.invariant-loop-row
invariant-loop-row l =
    record {
      items : l.names.items ++ map row_name (filter is_eligible (drop l.row-index l.rows)) ≡ map row_name (filter is_eligible l.rows);
      room : length l.names.items ≤ l.row-index;
    }
