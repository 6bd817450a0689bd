-- What a story says of one suspicion, that of the number n: who began it, and how it ended.
use Rattle.std.specs.Prelude.{ℕ, ◌==◌, ◌&&◌, nat_le, nat_lt, Bool, false, List, [], ◌∷◌}
use Rattle.std.specs.Prelude.{Option, Some, None, if◌then◌else◌}
use Rattle.swim_rules.specs.declared.table.Heard.TheVariants.{Accepted}
use Rattle.swim_rules.specs.declared.table.Row.{Row}
use Rattle.swim_wire.specs.declared.update.UpdateKind.{UpdateKind}
use Rattle.swim_wire.specs.declared.update.UpdateKind.TheVariants.{Alive}
use Rattle.swim_explain.specs.declared.account.Account.{Account}
use Rattle.swim_explain.specs.declared.cause.CasePart.{CasePart}
use Rattle.swim_explain.specs.declared.cause.CasePart.TheVariants as part
use Rattle.swim_explain.specs.declared.fact.Fact.{Fact}
use Rattle.swim_explain.specs.declared.fact.Fact.TheVariants as fact

-- an update says that x is suspected or confirmed with this number
abbrev pub blames : ℕ → UpdateKind → ℕ → Bool
blames n Alive number = false
blames n _ number = number == n

-- x is suspected since nobody answered a probe
abbrev pub accuses : ℕ → Fact → Bool
accuses n (fact.Suspected number seq) = number == n
accuses n _ = false

-- the suspicion stood too long
abbrev pub expires : ℕ → Fact → Bool
expires n (fact.Confirmed number since) = number == n
expires n _ = false

-- somebody told that x is suspected or confirmed, and that was taken, or told it x
abbrev pub tells : ℕ → Fact → Bool
tells n (fact.Told by u was Accepted) = blames n u.kind u.number
tells n (fact.ToldItself by u) = blames n u.kind u.number
tells n _ = false

-- x is alive by an update in the place of a row with this number
abbrev pub ends_case : ℕ → UpdateKind → Option Row → Bool
ends_case n Alive (Some r) = blames n r.update.kind r.update.number
ends_case n _ _ = false

-- the suspicion, or what became of it, was refuted: by an
-- update, or by x, whose own number passed it
abbrev pub refutes : ℕ → Fact → Bool
refutes n (fact.Told by u was Accepted) = ends_case n u.kind was
refutes n (fact.Renumbered old new) = nat_le old n && nat_lt n new
refutes n _ = false

-- the fact is such a part of the suspicion
abbrev pub is_part : CasePart → ℕ → Fact → Bool
is_part part.Accusation n f = accuses n f
is_part part.Hearsay n f = tells n f
is_part part.Expiry n f = expires n f
is_part part.Refutation n f = refutes n f

-- the first account of such a part
abbrev pub first : CasePart → ℕ → List Account → Option Account
first p n [] = None
first p n (a ∷ accounts) = if is_part p n a.happening.fact then Some a else first p n accounts
