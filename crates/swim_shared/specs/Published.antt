-- What is published, and what a watch makes of it.
use Rattle.std.specs.Prelude.{◌≡◌, List}
use mathlib.Core.List.{IsPrefix}
use Rattle.logbook.specs.Pages.{Book}
use Rattle.swim_node.specs.declared.entry.Entry.{Entry}
use Rattle.swim_node.specs.declared.entry.Status.{Status}
use Rattle.swim_node.specs.History.{Base, status_of, IsLegal}
use Rattle.swim_shared.specs.declared.shown.Shown.{Shown}

-- a beginning of the history of this book, legal from the base, with its status
pub record IsRight (book : Book) (base : Base) (x : Shown) : Type 0 where
  pub same : x.front.book ≡ book
  pub legal : IsLegal base x.front.entries
  pub status : x.status ≡ status_of base x.front.entries

-- a watch that had seen the first list was told this status: that of the second, which is legal and
-- begins with the first
abbrev pub Told : Base → List Entry → List Entry → Status → Type 0
Told base old new s = (s ≡ status_of base new) × IsPrefix old new × IsLegal base new

-- a watch that had seen the second list goes on to the third, with all that a pass has seen
abbrev pub KnowsOf : List Entry → List Entry → List Entry → Type 0
KnowsOf seen old new = IsPrefix old new × IsPrefix seen new
