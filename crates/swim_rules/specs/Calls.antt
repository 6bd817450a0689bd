-- What any list of calls leaves of a table.
use Rattle.std.specs.Prelude.{ℕ, List, [], ◌∷◌}
use Rattle.swim_wire.specs.declared.update.Update.{Update}
use Rattle.swim_rules.specs.Rules.{Told}
use Rattle.swim_rules.specs.Rows.{Members, answer_to, hear_rows, hear_option, remove_option}
use Rattle.swim_rules.specs.Rows.{due_confirm, due_to_forget, told_with, told_option, untold_option}

-- a call that may change a table, with its arguments
pub data Call : Type 0 where
  Hears : Update → ℕ → Call
  Expires : ℕ → Call
  Forgets : ℕ → Call

-- the table after a call, as the call's contract says
abbrev pub table_after : Members → Call → Members
table_after table (Hears u now) =
    record table { rows = hear_rows table.rules table.rows u now }
table_after table (Expires now) =
    record table { rows = hear_option table.rules table.rows (due_confirm table now) now }
table_after table (Forgets now) =
    record table { rows = remove_option table.rows (due_to_forget table now) }

-- what a table was told, after a call
abbrev pub told_after : Members → List Told → Call → List Told
told_after table told (Hears u now) = told_with (answer_to table.rules table.rows u) told u now
told_after table told (Expires now) = told_option told (due_confirm table now) now
told_after table told (Forgets now) = untold_option told (due_to_forget table now)

-- the table after these calls, the first one first
abbrev pub table_after_all : Members → List Call → Members
table_after_all table [] = table
table_after_all table (call ∷ calls) = table_after_all (table_after table call) calls

-- what it was told after these calls
abbrev pub told_after_all : Members → List Told → List Call → List Told
told_after_all table told [] = told
told_after_all table told (call ∷ calls) =
    told_after_all (table_after table call) (told_after table told call) calls
