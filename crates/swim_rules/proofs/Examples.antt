-- Worked rows, by computation.
use Rattle.std.proofs.Common.{◌≡◌, ℕ, refl, [], ◌∷◌}
use Rattle.swim_wire.specs.declared.rules.Rules.TheVariants.{One, Two}
use Rattle.swim_wire.specs.declared.update.Update.{Update}
use Rattle.swim_wire.specs.declared.update.UpdateKind.TheVariants.{Alive, Suspect, Confirm}
use Rattle.swim_rules.specs.declared.table.Row.{Row}
use Rattle.swim_rules.specs.Rules.{rows, Hear, Forget}
use Rattle.swim_rules.specs.Hearing.{hear_each}

abbrev a : ℕ → ℕ → Update
a x i = record { kind = Alive; who = x; number = i }

abbrev s : ℕ → ℕ → Update
s x i = record { kind = Suspect; who = x; number = i }

abbrev c : ℕ → ℕ → Update
c x i = record { kind = Confirm; who = x; number = i }

abbrev at : Update → ℕ → Row
at u t = record { update = u; since = t }

-- four updates, in order and reversed
heard_in_order : rows One [] (Hear (a 3 4) 0 ∷ Hear (a 3 3) 0 ∷ Hear (s 3 3) 0 ∷ Hear (a 3 3) 0 ∷ []) ≡ at (a 3 4) 0 ∷ []
heard_in_order = refl

heard_reversed : rows One [] (Hear (a 3 3) 0 ∷ Hear (s 3 3) 0 ∷ Hear (a 3 3) 0 ∷ Hear (a 3 4) 0 ∷ []) ≡ at (a 3 4) 0 ∷ []
heard_reversed = refl

-- confirmed, forgotten and heard again
confirm_and_forget : rows One [] (Hear (a 3 1) 40 ∷ Forget 3 ∷ Hear (a 3 1) 39 ∷ Hear (c 3 0) 0 ∷ Hear (a 3 9) 0 ∷ []) ≡ at (a 3 1) 40 ∷ []
confirm_and_forget = refl

confirm_kept : rows One [] (Hear (a 3 1) 39 ∷ Hear (c 3 0) 0 ∷ Hear (a 3 9) 0 ∷ []) ≡ at (c 3 0) 0 ∷ []
confirm_kept = refl

-- by rules 1 a Confirm stands whatever comes later
final_by_one : hear_each One [] (at (a 3 9) 0 ∷ at (c 3 0) 0 ∷ at (a 3 10) 39 ∷ []) ≡ at (c 3 0) 0 ∷ []
final_by_one = refl

-- by rules 2 it stands until a greater number comes
stands : hear_each Two [] (at (a 3 1) 0 ∷ at (c 3 9) 0 ∷ at (a 3 9) 0 ∷ []) ≡ at (c 3 9) 0 ∷ []
stands = refl

comes_back : hear_each Two [] (at (a 3 1) 0 ∷ at (c 3 9) 0 ∷ at (a 3 10) 5 ∷ []) ≡ at (a 3 10) 5 ∷ []
comes_back = refl

-- and overrides no greater one
late_confirm : hear_each Two [] (at (a 3 10) 0 ∷ at (c 3 9) 0 ∷ []) ≡ at (a 3 10) 0 ∷ []
late_confirm = refl

-- about a member without a row it is unknown by both rules
unknown_confirm : hear_each Two [] (at (c 3 5) 0 ∷ at (a 3 4) 0 ∷ []) ≡ at (a 3 4) 0 ∷ []
unknown_confirm = refl

known_confirm : hear_each Two [] (at (a 3 4) 0 ∷ at (c 3 5) 0 ∷ []) ≡ at (c 3 5) 0 ∷ []
known_confirm = refl

-- an equal Confirm does not renew the time of the row, and a greater one does
equal_renews_not : hear_each Two [] (at (a 3 1) 0 ∷ at (c 3 5) 1 ∷ at (c 3 5) 2 ∷ []) ≡ at (c 3 5) 1 ∷ []
equal_renews_not = refl

greater_renews : hear_each Two [] (at (a 3 1) 0 ∷ at (c 3 5) 1 ∷ at (c 3 6) 3 ∷ []) ≡ at (c 3 6) 3 ∷ []
greater_renews = refl

-- the tops say the same, the newest first
top_comes_back : rows Two [] (Hear (a 3 10) 5 ∷ Hear (c 3 9) 0 ∷ Hear (a 3 1) 0 ∷ []) ≡ at (a 3 10) 5 ∷ []
top_comes_back = refl

top_stands : rows Two [] (Hear (a 3 9) 0 ∷ Hear (c 3 9) 0 ∷ Hear (a 3 1) 0 ∷ []) ≡ at (c 3 9) 0 ∷ []
top_stands = refl
