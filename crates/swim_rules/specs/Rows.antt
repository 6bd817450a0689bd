-- A table as a list of rows in the order of the members.
use Rattle.std.specs.Prelude.{◌≡◌, ℕ, ◌-◌, ◌<◌, ◌≤◌, ◌==◌, ◌&&◌, nat_lt, nat_le, Bool, true, false}
use Rattle.std.specs.Prelude.{not, List, [], ◌∷◌, length, if◌then◌else◌, Option, Some, None}
use Rattle.std.specs.List.{find}
use Rattle.std.specs.Option.{option_map}
use Rattle.swim_wire.specs.declared.rules.Rules.{Rules}
use Rattle.swim_wire.specs.declared.update.Update.{Update}
use Rattle.swim_wire.specs.declared.update.UpdateKind.{UpdateKind}
use Rattle.swim_wire.specs.declared.update.UpdateKind.TheVariants.{Alive, Suspect, Confirm}
use Rattle.swim_rules.specs.declared.table.TheConstants.{ROWS_MAX}
use Rattle.swim_rules.specs.declared.table.Row.{Row}
use Rattle.swim_rules.specs.declared.table.Heard.{Heard}
use Rattle.swim_rules.specs.declared.table.Heard.TheVariants.{Accepted, Kept, Unknown, Full}
use Rattle.swim_rules.specs.Rules.{overrides, is_about, Told, Hear, Forget}

-- the rows are in strictly ascending order, all above x
abbrev pub AreAbove : ℕ → List Row → Type 0
AreAbove x [] = Unit {0}
AreAbove x (r ∷ rows) = (x < r.update.who) × AreAbove r.update.who rows

-- the row of x among these rows
abbrev pub row_of : List Row → ℕ → Option Row
row_of rows x = find (is_about x) rows

-- the rows with this one in the place of the row of its member
abbrev pub put_row : List Row → Row → List Row
put_row [] r = r ∷ []
put_row (s ∷ rows) r =
    if nat_lt s.update.who r.update.who
    then s ∷ put_row rows r
    else (if s.update.who == r.update.who then r ∷ rows else r ∷ s ∷ rows)

-- the answer to an update about a member without a row, in a table that is full or not
abbrev pub heard_new : UpdateKind → Bool → Heard
heard_new Confirm full = Unknown
heard_new _ full = if full then Full else Accepted

-- the answer to an update about a member that has this row, if it has one
abbrev pub heard_as : Rules → Option Row → Bool → Update → Heard
heard_as rules (Some old) full u = if overrides rules u old.update then Accepted else Kept
heard_as rules None full u = heard_new u.kind full

-- the answer of a table with these rows
abbrev pub answer_to : Rules → List Row → Update → Heard
answer_to rules rows u = heard_as rules (row_of rows u.who) (length rows == ROWS_MAX) u

-- the rows after an update with this answer
abbrev pub rows_after : Heard → List Row → Row → List Row
rows_after Accepted rows r = put_row rows r
rows_after _ rows r = rows

-- the rows after an update was heard at this tick
abbrev pub hear_rows : Rules → List Row → Update → ℕ → List Row
hear_rows rules rows u now =
    rows_after (answer_to rules rows u) rows (record { update = u; since = now })

-- the rows without that of x
abbrev pub remove_row : List Row → ℕ → List Row
remove_row [] x = []
remove_row (s ∷ rows) x = if s.update.who == x then rows else s ∷ remove_row rows x

-- the rows are in strictly ascending order
abbrev pub AreInOrder : List Row → Type 0
AreInOrder [] = Unit {0}
AreInOrder (r ∷ rows) = AreAbove r.update.who rows

-- what a table was told with an update that had this answer: an unknown
-- member's Confirm and an update with no room for a row are left out
abbrev pub told_with : Heard → List Told → Update → ℕ → List Told
told_with Accepted told u now = Hear u now ∷ told
told_with Kept told u now = Hear u now ∷ told
told_with _ told u now = told

-- a table: whose it is, after how many ticks a Suspect becomes Confirm and
-- a Confirm is forgotten, by which rules updates override, and the rows
pub record Members : Type 0 where
  pub me : ℕ
  pub suspect : ℕ
  pub forget : ℕ
  pub rules : Rules
  pub rows : List Row

-- none of the rows is about x
abbrev pub LacksRow : ℕ → List Row → Type 0
LacksRow x rows = row_of rows x ≡ None

-- what callers may rely on: at most `ROWS_MAX` rows in strictly
-- ascending order, and none of them is one's own
pub record IsTable (table : Members) : Type 0 where
  pub order : AreInOrder table.rows
  pub others : LacksRow table.me table.rows
  pub most : length table.rows ≤ ROWS_MAX

-- the same kind
abbrev pub is_kind : UpdateKind → UpdateKind → Bool
is_kind Alive Alive = true
is_kind Suspect Suspect = true
is_kind Confirm Confirm = true
is_kind _ _ = false

-- a row of this kind
abbrev pub is_of_kind : UpdateKind → Row → Bool
is_of_kind kind row = is_kind kind row.update.kind

-- a row of this kind that has stood for at least so many ticks
abbrev pub is_due : UpdateKind → ℕ → ℕ → Row → Bool
is_due kind ticks now row = is_kind kind row.update.kind && nat_le ticks (now - row.since)

-- the Confirm that a Suspect becomes
abbrev pub confirm_of : Row → Update
confirm_of row = record { kind = Confirm; who = row.update.who; number = row.update.number }

-- the first Suspect that is due, as a Confirm
abbrev pub due_confirm : Members → ℕ → Option Update
due_confirm table now = option_map confirm_of (find (is_due Suspect table.suspect now) table.rows)

-- the rows after an update, if there is one
abbrev pub hear_option : Rules → List Row → Option Update → ℕ → List Row
hear_option rules rows None now = rows
hear_option rules rows (Some u) now = hear_rows rules rows u now

-- the first member whose Confirm is due to be forgotten
abbrev pub due_to_forget : Members → ℕ → Option ℕ
due_to_forget table now =
    option_map (λ r. r.update.who) (find (is_due Confirm table.forget now) table.rows)

-- the rows without those of this member, if there is one to remove
abbrev pub remove_option : List Row → Option ℕ → List Row
remove_option rows None = rows
remove_option rows (Some x) = remove_row rows x

-- a row that is Alive or Suspect
abbrev pub is_eligible : Row → Bool
is_eligible row = not (is_kind Confirm row.update.kind)

-- the rows after an update is heard about a member that has this row, if it has one
abbrev pub heard_row : Rules → Option Row → List Row → Row → List Row
heard_row rules None rows r = put_row rows r
heard_row rules (Some t) rows r =
    if overrides rules r.update t.update then put_row rows r else rows

-- what a table was told with the Confirm of a Suspect that was due, if one was
abbrev pub told_option : List Told → Option Update → ℕ → List Told
told_option told None now = told
told_option told (Some u) now = Hear u now ∷ told

-- what a table was told with the member that was forgotten, if one was
abbrev pub untold_option : List Told → Option ℕ → List Told
untold_option told None = told
untold_option told (Some x) = Forget x ∷ told

-- the row of a member after this cursor
abbrev pub is_after : ℕ → Row → Bool
is_after cursor row = nat_lt cursor row.update.who
