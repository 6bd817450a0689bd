-- What a shared node is made of.
use Rattle.std.specs.Prelude.{ℕ}
use Rattle.logbook.specs.Pages.{Book}
use Rattle.swim_node.specs.Node.{NodeView}

-- what a contract sees of the parts
pub record PartsView (D L : Type 0) : Type 0 where
  pub book : Book  -- which history it is, which is empty
  pub node : NodeView D
  pub link : L
  pub callers : ℕ
  pub watches : ℕ

-- the parts with this history, node and link, for so many callers and watches
abbrev pub parts_of : {D L : Type 0} → Book → NodeView D → L → ℕ → ℕ → PartsView D L
parts_of book node link callers watches = record {
  book = book;
  node = node;
  link = link;
  callers = callers;
  watches = watches;
}
