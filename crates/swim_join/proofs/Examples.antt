-- What the definitions of specs/ make of a few rows.
use Rattle.std.proofs.Common.{◌≡◌, List, [], ◌∷◌, refl, true, false, Some, None}
use Rattle.swim_wire.specs.declared.update.Update.{Update}
use Rattle.swim_wire.specs.declared.update.UpdateKind.TheVariants.{Alive, Suspect, Confirm}
use Rattle.swim_join.specs.Joins.{due_by, place_after}
use Rattle.swim_join.specs.Searches.{drawn_back, sought_by, wanted_by, but_for}

-- three rows, of 10.0.0.1:7000 and the two members after it
abbrev rows : List Update
rows =
    record { kind = Alive; who = 10995116350296; number = 3 } ∷ record { kind = Suspect; who = 10995116415832; number = 0 }
    ∷ record { kind = Confirm; who = 10995116481368; number = 1 } ∷ []

-- the next page begins after the last row, or at the front
after_rows : place_after rows ≡ 10995116481368
after_rows = refl

after_none : place_after [] ≡ 0
after_none = refl

-- no list: of two that may be drawn a word of 3 draws the second, and itself is left out
draws : due_by 1 rows None 3 false true ≡ Some 10995116415832
draws = refl

draws_other : due_by 10995116415832 rows None 3 false true ≡ Some 10995116350296
draws_other = refl

-- a peer that no row shows is joined, and one that a row shows at the list's turn alone
asks_missing : due_by 1 rows (Some 7) 3 false true ≡ Some 7
asks_missing = refl

asks_drawn_one : due_by 1 rows (Some 10995116481368) 3 false true ≡ Some 10995116415832
asks_drawn_one = refl

asks_in_turn : due_by 1 rows (Some 10995116481368) 3 true true ≡ Some 10995116481368
asks_in_turn = refl

-- but one that may not be asked yet is not
waits_for_all : due_by 1 rows (Some 7) 3 false false ≡ Some 10995116415832
waits_for_all = refl

-- the failed one is sought, and a listed one that no row shows; one that was sought stays so while it is
-- back, until it is to be joined
loses : sought_by 1 rows (7 ∷ []) [] ≡ 10995116481368 ∷ 7 ∷ []
loses = refl

keeps_back : sought_by 1 rows [] (7 ∷ 10995116350296 ∷ []) ≡ 10995116350296 ∷ 10995116481368 ∷ []
keeps_back = refl

loses_not_itself : sought_by 10995116481368 rows [] [] ≡ []
loses_not_itself = refl

joins_back : drawn_back 1 rows (10995116350296 ∷ 10995116481368 ∷ []) 9 ≡ Some 10995116350296
joins_back = refl

joins_back_once : but_for 10995116350296 (10995116350296 ∷ 10995116481368 ∷ []) ≡ 10995116481368 ∷ []
joins_back_once = refl

-- of the two that are looked for a word of 9 draws the second, and one of 17 the first
wants_listed : wanted_by 1 rows (7 ∷ 10995116350296 ∷ []) 9 ≡ Some 7
wants_listed = refl

wants_failed : wanted_by 1 rows (7 ∷ 10995116350296 ∷ []) 17 ≡ Some 10995116481368
wants_failed = refl
