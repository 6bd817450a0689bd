-- Two lists of rows, member by member.
use Rattle.std.specs.Prelude.{◌≡◌, ℕ, ◌+◌, ◌≤◌, List, [], ◌∷◌, ◌++◌, Option, Some, None}
use Rattle.swim_wire.specs.declared.update.Update.{Update}
use Rattle.swim_news.specs.declared.change.Change.{Change}
use Rattle.swim_news.specs.News.{Became, old_of, new_of, change_of, who_of, IsOneMember, AreFrom}

-- no more than one change
abbrev pub listed : Option Change → List Change
listed None = []
listed (Some change) = change ∷ []

-- the first member of two lists is taken off, with how its row changed; what is left are rows of
-- later members
pub record Takes (old new : List Update) (change : Option Change) (older newer : List Update)
    : Type 0 where
  pub fate : Became
  pub one : IsOneMember fate
  pub old_is : old ≡ old_of fate ++ older
  pub new_is : new ≡ new_of fate ++ newer
  pub change_is : listed change ≡ change_of fate
  pub order : (x : ℕ) → AreFrom x old → AreFrom x new →
      (x ≤ who_of fate) × AreFrom (who_of fate + 1) older × AreFrom (who_of fate + 1) newer
