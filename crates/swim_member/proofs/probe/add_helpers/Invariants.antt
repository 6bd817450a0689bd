use Rattle.std.proofs.Common.{◌≡◌, ◌≤◌, ◌++◌, map, take, drop, length}
use Rattle.std.specs.List.{filter}
use Rattle.swim_member.specs.Member.{row_name}
use Rattle.swim_member.specs.Machinery.Steps.{is_helper}
use Rattle.swim_member.proofs.probe.add_helpers.Given as goal

-- what is there and what the rows that are left would add give what all add
abbrev pub invariant-loop-row : goal.invariant-loop-row
invariant-loop-row l =
    record {
      items : take l.most (l.helpers.items ++ map row_name (filter (is_helper l.target l.later) (drop l.row-index l.rows))) ≡ take l.most (l.initial.helpers.items ++ map row_name (filter (is_helper l.target l.later) l.rows));
      room : length l.helpers.items ≤ l.most;
    }
