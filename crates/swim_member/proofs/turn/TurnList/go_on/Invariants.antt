use Rattle.std.proofs.Common.{◌≡◌, ◌+◌, drop}
use Rattle.std.specs.List.{find, position_or_len}
use Rattle.swim_member.specs.Member.{is_eligible_in}
use Rattle.swim_member.proofs.turn.TurnList.go_on.Given as goal

-- none so far is eligible
abbrev pub invariant-loop-over : goal.invariant-loop-over
invariant-loop-over l =
    record {
      first : find (is_eligible_in l.table.rows) l.member-items ≡ find (is_eligible_in l.table.rows) (drop l.over l.member-items);
      place : position_or_len (is_eligible_in l.table.rows) l.member-items ≡ l.over + position_or_len (is_eligible_in l.table.rows) (drop l.over l.member-items);
    }
