-- What a member holds of another, and how that may change from one move to the next.
use Rattle.std.specs.Prelude.{◌≡◌, ◌≢◌, ℕ, true, List, [], ◌∷◌, ◌⊎◌, Option, Some, None, IsSome}
use Rattle.swim_wire.specs.declared.rules.Rules.{Rules}
use Rattle.swim_wire.specs.declared.update.UpdateKind.TheVariants.{Alive}
use Rattle.swim_rules.specs.declared.table.Row.{Row}
use Rattle.swim_rules.specs.Rules.{overrides}
use Rattle.swim_rules.specs.Rows.{row_of}
use Rattle.swim_group.specs.Group.{Place, Group, Move, Happens, Restarts, state_at, place_at}
use Rattle.swim_group.specs.Group.{after_move}

-- what a member holds of x: its row, if there is such a member and it has one
abbrev pub held_by : ℕ → Option Place → Option Row
held_by x None = None
held_by x (Some p) = row_of (state_at p).rows x

-- what the member with this number in the group holds of x
abbrev pub held_at : Group → ℕ → ℕ → Option Row
held_at g which x = held_by x (place_at g.places which)

-- by these rules, what was held stays, or gives way to what overrides
-- it, or is forgotten, as no Alive is. Where nothing was held anything may come
abbrev pub RisesOrGoes : Rules → Option Row → Option Row → Type 0
RisesOrGoes rules None new = Unit {0}
RisesOrGoes rules (Some old) None = old.update.kind ≢ Alive
RisesOrGoes rules (Some old) (Some new) =
    (new ≡ old) ⊎ (overrides rules new.update old.update ≡ true)

-- the member with this number does not begin anew at this move
abbrev pub IsNoRestart : ℕ → Move → Type 0
IsNoRestart which (Happens k event granted) = Unit {0}
IsNoRestart which (Restarts k settings first) = k ≢ which

-- at none of these moves the member begins anew, and after each it holds something of x
abbrev pub HoldsOn : ℕ → ℕ → Group → List Move → Type 0
HoldsOn which x g [] = Unit {0}
HoldsOn which x g (m ∷ moves) = IsNoRestart which m
    × IsSome (held_at (after_move g m) which x)
    × HoldsOn which x (after_move g m) moves
