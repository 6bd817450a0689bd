-- Rows that change as time goes on.
use Rattle.std.specs.Prelude.{List, [], ◌∷◌, Option, Some, None}
use Rattle.swim_member.specs.Member.{row_name}
use Rattle.swim_member.specs.State.{Change, Heard, Forgot, Queued}
use Rattle.swim_rules.specs.Rows.{confirm_of}
use Rattle.swim_rules.specs.declared.table.Row.{Row}

-- the first row that is due becomes Confirm
abbrev pub expire_first : Option Row → List Change
expire_first None = []
expire_first (Some r) = Queued (confirm_of r) ∷ Heard (confirm_of r) ∷ []

-- the first row that is due is forgotten
abbrev pub forget_first : Option Row → List Change
forget_first None = []
forget_first (Some r) = Forgot (row_name r) ∷ []
