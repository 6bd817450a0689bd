-- What changed from one list of rows to a later one.
use Rattle.std.specs.Prelude.{◌≡◌, ◌≢◌, ℕ, ◌+◌, ◌-◌, ◌≤◌, List, []}
use Rattle.std.specs.Prelude.{◌∷◌, ◌++◌, length, slice_get, Option}
use Rattle.std.specs.Option.{option_map}
use Rattle.swim_wire.specs.declared.update.Update.{Update}
use Rattle.swim_news.specs.declared.change.Change.{Change}
use Rattle.swim_news.specs.declared.change.Change.TheVariants.{New, Changed, Gone}

-- the rows are in strictly ascending order of their members, from x on
abbrev pub AreFrom : ℕ → List Update → Type 0
AreFrom x [] = Unit {0}
AreFrom x (r ∷ rows) = (x ≤ r.who) × AreFrom (r.who + 1) rows

-- the member of the last row, if there is one
abbrev pub last_of : List Update → Option ℕ
last_of rows = option_map (λ (r : Update). r.who) (slice_get rows (length rows - 1))

-- what became of a member's row: it is as it was, or it changed
pub data Became : Type 0 where
  Stays : Update → Became
  Turns : Change → Became

-- the row that it was, if there was one
abbrev pub old_of : Became → List Update
old_of (Stays r) = r ∷ []
old_of (Turns (New s)) = []
old_of (Turns (Changed r s)) = r ∷ []
old_of (Turns (Gone r)) = r ∷ []

-- the row that it is, if there is one
abbrev pub new_of : Became → List Update
new_of (Stays r) = r ∷ []
new_of (Turns (New s)) = s ∷ []
new_of (Turns (Changed r s)) = s ∷ []
new_of (Turns (Gone r)) = []

-- how it changed, if it did
abbrev pub change_of : Became → List Change
change_of (Stays r) = []
change_of (Turns change) = change ∷ []

-- the member
abbrev pub who_of : Became → ℕ
who_of (Stays r) = r.who
who_of (Turns (New s)) = s.who
who_of (Turns (Changed r s)) = r.who
who_of (Turns (Gone r)) = r.who

-- a row that changed is another one of the same member
abbrev pub IsOneMember : Became → Type 0
IsOneMember (Turns (Changed r s)) = (r.who ≡ s.who) × (r ≢ s)
IsOneMember _ = Unit {0}

abbrev pub old_rows : List Became → List Update
old_rows [] = []
old_rows (f ∷ fates) = old_of f ++ old_rows fates

abbrev pub new_rows : List Became → List Update
new_rows [] = []
new_rows (f ∷ fates) = new_of f ++ new_rows fates

abbrev pub changes_in : List Became → List Change
changes_in [] = []
changes_in (f ∷ fates) = change_of f ++ changes_in fates

-- each is of one member, in strictly ascending order, from x on
abbrev pub AreInTurn : ℕ → List Became → Type 0
AreInTurn x [] = Unit {0}
AreInTurn x (f ∷ fates) = (x ≤ who_of f) × IsOneMember f × AreInTurn (who_of f + 1) fates

-- what became of all members, each once and in their order, says the old rows, the new ones, and
-- these changes
pub record AreNews (old new : List Update) (changes : List Change) : Type 0 where
  pub fates : List Became
  pub order : AreInTurn 0 fates
  pub old_are : old_rows fates ≡ old
  pub new_are : new_rows fates ≡ new
  pub changes_are : changes_in fates ≡ changes
