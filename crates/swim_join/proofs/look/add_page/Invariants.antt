use Rattle.std.proofs.Common.{◌≡◌, ◌⊎◌, ◌++◌, Bool, ℕ, take}
use Rattle.swim_join.specs.Joins.{IsShownAs, AreWhole}
use Rattle.swim_join.proofs.look.add_page.Given as goal

-- what was there, and the rows so far
abbrev pub invariant-loop-row : goal.invariant-loop-row
invariant-loop-row l = record {
  shown : (held : Bool) (x : ℕ) → IsShownAs held l.rows x → IsShownAs held l.initial.rows x ⊎ IsShownAs held (take l.row-index l.page) x;
  all : AreWhole (l.initial.rows ++ take l.row-index l.page) → l.rows ≡ l.initial.rows ++ take l.row-index l.page;
}
