use Rattle.std.proofs.Common.{◌≡◌, ◌≤◌, ◌++◌, ◌-◌, take, length}
use Rattle.std.specs.List.{filter}
use Rattle.swim_member.specs.Join.{updates_with, is_update_after}
use Rattle.swim_member.proofs.join.page_of.Given as goal

-- what is there and what comes after the last of it make the page
abbrev pub invariant-loop : goal.invariant-loop
invariant-loop l =
    record {
      page : l.page.items ++ take (30 - l.counter) (filter (is_update_after l.last) (updates_with l.table.rows l.own)) ≡ take 30 (filter (is_update_after l.fn.cursor) (updates_with l.table.rows l.own));
      count : length l.page.items ≤ l.counter;
    }
