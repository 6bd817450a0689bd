use Rattle.std.proofs.Common.{◌≡◌, ◌++◌, take}
use Rattle.swim_library.specs.Changes.{AreAllRows}
use Rattle.swim_library.proofs.changes.add_page.Given as goal

-- what was there, and the rows so far
abbrev pub invariant-loop-row : goal.invariant-loop-row
invariant-loop-row l =
    AreAllRows (l.initial.rows ++ take l.row-index l.page) → l.rows ≡ l.initial.rows ++ take l.row-index l.page
