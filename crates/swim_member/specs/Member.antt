-- The rows of a member that take part, their counts, and a new member.
use Rattle.std.specs.List.{filter, list_any}
use Rattle.std.specs.Prelude.{ℕ, ◌==◌, Bool, List, [], ◌∷◌, length, None}
use Rattle.swim_member.specs.State.{State}
use Rattle.swim_member.specs.declared.settings.Settings.{Settings}
use Rattle.swim_member.specs.declared.state.Counts.{Counts}
use Rattle.swim_member.specs.declared.state.Phase.TheVariants.{Running}
use Rattle.swim_rules.specs.Rows.{is_eligible, is_of_kind}
use Rattle.swim_rules.specs.declared.table.Row.{Row}
use Rattle.swim_wire.specs.declared.update.UpdateKind.{UpdateKind}
use Rattle.swim_wire.specs.declared.update.UpdateKind.TheVariants.{Alive, Suspect, Confirm}

-- the rows that are Alive or Suspect, in the order of the members
abbrev pub eligible : State → List Row
eligible s = filter is_eligible s.rows

-- the member that a row is about
abbrev pub row_name : Row → ℕ
row_name row = row.update.who

-- x has one of these rows, and it is Alive or Suspect
abbrev pub is_eligible_in : List Row → ℕ → Bool
is_eligible_in rows x = list_any (λ r. row_name r == x) (filter is_eligible rows)

-- x has a row that is Alive or Suspect
abbrev pub is_eligible_name : State → ℕ → Bool
is_eligible_name s x = is_eligible_in s.rows x

-- how many rows are of this kind
abbrev pub rows_of_kind : UpdateKind → State → ℕ
rows_of_kind kind s = length (filter (is_of_kind kind) s.rows)

-- how many rows are Alive, Suspect and Confirm
abbrev pub counts : State → Counts
counts s = record {
  alive = rows_of_kind Alive s;
  suspect = rows_of_kind Suspect s;
  confirmed = rows_of_kind Confirm s;
}

-- a new member
abbrev pub new_state : Settings → ℕ → State
new_state settings first = record {
  settings = settings;
  number = first;
  phase = Running;
  time = 0;
  rows = [];
  queue = record { update = record { kind = Alive; who = settings.me; number = first }; count = 0 }
      ∷ [];
  seq = 1;
  probe = None;
  relays = [];
  joining = None;
  listed = [];
  place = 0;
}
