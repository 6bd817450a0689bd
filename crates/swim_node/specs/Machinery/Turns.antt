-- How many entries each caller has.
use Rattle.std.specs.Prelude.{◌≡◌, ℕ, ◌<◌, List, length, take, slice_index}
use Rattle.swim_node.specs.declared.entry.Entry.{Entry}
use Rattle.swim_node.specs.History.{calls_by}

-- a journal's entries, and how many places it has
pub record JournalView : Type 0 where
  pub entries : List Entry
  pub room : ℕ

-- a journal that has filled so many of its places
abbrev pub journal_of : ℕ → List Entry → JournalView
journal_of filled places = record { entries = take filled places; room = length places }

-- the counts by caller are those of the entries
pub record AreTurns (turns : List ℕ) (entries : List Entry) : Type 0 where
  pub counted : (caller : ℕ) → caller < 16
      → slice_index turns caller ≡ length (calls_by caller entries)
