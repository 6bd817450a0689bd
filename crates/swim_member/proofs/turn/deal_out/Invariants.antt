use Rattle.std.proofs.Common.{◌≡◌, ◌≤◌, ◌++◌, drop, length}
use Rattle.swim_member.specs.Turn.{dealt}
use Rattle.swim_member.proofs.turn.deal_out.Given as goal

-- the members that are there and those that the numbers to come name are all
abbrev pub invariant-loop-number : goal.invariant-loop-number
invariant-loop-number l =
    record {
      items : l.listed.items ++ dealt l.names (drop l.number-index l.number-items) ≡ dealt l.names l.deal;
      room : length l.listed.items ≤ l.number-index;
    }
