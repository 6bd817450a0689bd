-- What a table keeps of its rows, so that it looks at
-- none of them for a count, or while none is due.
use Rattle.std.specs.Prelude.{◌≡◌, ℕ, ◌-◌, ◌^◌, ◌≤◌, min, List, [], ◌∷◌, length, if◌then◌else◌}
use Rattle.std.specs.List.{filter}
use Rattle.swim_wire.specs.declared.update.UpdateKind.{UpdateKind}
use Rattle.swim_wire.specs.declared.update.UpdateKind.TheVariants.{Suspect, Confirm}
use Rattle.swim_rules.specs.declared.table.Row.{Row}
use Rattle.swim_rules.specs.declared.tally.Tally.{Tally}
use Rattle.swim_rules.specs.declared.tally.Tallies.{Tallies}
use Rattle.swim_rules.specs.Rows.{is_of_kind}

-- the earliest tick at which a row of this kind was heard,
-- or the greatest number where there is none
abbrev pub earliest : UpdateKind → List Row → ℕ
earliest kind [] = 2 ^ 64 - 1
earliest kind (r ∷ rows) =
    if is_of_kind kind r then min r.since (earliest kind rows) else earliest kind rows

-- how many rows are of this kind, and a tick before which none of these was heard
pub record IsTally (kind : UpdateKind) (tally : Tally) (rows : List Row) : Type 0 where
  pub count : tally.count ≡ length (filter (is_of_kind kind) rows)
  pub since : tally.since ≤ earliest kind rows

-- those of the two kinds that change by time
pub record AreTallies (tallies : Tallies) (rows : List Row) : Type 0 where
  pub suspects : IsTally Suspect tallies.suspects rows
  pub confirms : IsTally Confirm tallies.confirms rows
