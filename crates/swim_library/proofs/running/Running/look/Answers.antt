use Rattle.std.proofs.Common.{refl, subst}
use Rattle.swim_news.specs.News.{AreNews}
use Rattle.swim_library.specs.declared.changes.Told.{Told}
use Rattle.swim_library.proofs.running.Running.look.Goals as goal

pub returns-clause-found : goal.returns-clause-found
returns-clause-found c = record {
  between = c.read_rows.new.self;
  read = c.in-Ok.ensures.read;
  news = subst (λ (t : Told). AreNews t.rows c.in-Ok.rows c.compare.new.changes.items) c.read_rows.ensures.told c.compare.ensures;
  same = record { node = refl; outbox = refl; notes = refl; due = refl; seeking = refl; limit = refl };
}
