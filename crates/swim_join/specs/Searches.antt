-- Whom a member looks for: those that it holds for failed, and the listed ones that no row shows.
use Rattle.std.specs.Prelude.{ℕ, ◌/◌, ◌%◌, ◌==◌, ◌++◌, if◌then◌else◌}
use Rattle.std.specs.Prelude.{Bool, true, false, not, List, [], length, map, slice_get}
use Rattle.std.specs.Prelude.{Option, Some, None}
use Rattle.std.specs.List.{filter, list_any}
use Rattle.swim_wire.specs.declared.update.Update.{Update}
use Rattle.swim_join.specs.declared.sought.TheConstants.{SEARCHES}
use Rattle.swim_member.specs.Looks.{is_among}
use Rattle.swim_join.specs.Joins.{has_row, is_held, may_be_drawn}

-- the row is of another member that it shows as failed, or that was sought before
abbrev pub is_sought : ℕ → List ℕ → Update → Bool
is_sought me sought r =
    if r.who == me then false else (if is_held r.kind then is_among r.who sought else true)

-- those that the rows show as failed, and those of the sought that are back
abbrev pub sought_in : ℕ → List Update → List ℕ → List ℕ
sought_in me rows sought = map (λ (r : Update). r.who) (filter (is_sought me sought) rows)

-- a row shows this other member as Alive or Suspect
abbrev pub is_back_in : ℕ → List Update → ℕ → Bool
is_back_in me rows x =
    list_any (λ (r : Update). if r.who == x then may_be_drawn me r else false) rows

-- those of these that are back
abbrev pub back_in : ℕ → List Update → List ℕ → List ℕ
back_in me rows sought = filter (is_back_in me rows) sought

-- these but for that one
abbrev pub but_for : ℕ → List ℕ → List ℕ
but_for x sought = filter (λ (y : ℕ). not (y == x)) sought

-- the peers of a list that no row shows
abbrev pub missing_in : List Update → List ℕ → List ℕ
missing_in rows peers = filter (λ (x : ℕ). not (has_row rows x)) peers

-- who is sought by these rows, after those that were sought before, and with this list of peers
abbrev pub sought_by : ℕ → List Update → (peers sought : List ℕ) → List ℕ
sought_by me rows peers sought = sought_in me rows sought ++ missing_in rows peers

-- the one of these that a word draws, if there is one; the word's remainder by SEARCHES says
-- whether it is the turn of any of them
abbrev pub picked : List ℕ → ℕ → Option ℕ
picked members word = slice_get members (word / SEARCHES % length members)

-- the one that it draws of those that are back
abbrev pub drawn_back : ℕ → List Update → List ℕ → ℕ → Option ℕ
drawn_back me rows sought word = picked (back_in me rows sought) word

-- who is sought yet, once that one is to be joined
abbrev pub but_for_drawn : Option ℕ → List ℕ → List ℕ
but_for_drawn None sought = sought
but_for_drawn (Some x) sought = but_for x sought

-- the one that it draws of those that the rows show as failed, and of the list's that they do not
-- show
abbrev pub wanted_by : ℕ → List Update → List ℕ → ℕ → Option ℕ
wanted_by me rows peers word = picked (sought_in me rows [] ++ missing_in rows peers) word
