use Rattle.std.proofs.Common.{◌++◌, refl, ap, ◌∙◌}
use Rattle.swim_join.proofs.news_log.News.tell.Goals as goal

pub returns : goal.returns
returns g c = rw (← c.self.view_is) (record {
  changes = c.compare.new.changes.items;
  are = c.compare.ensures;
  told = c.log_all.ensures ∙ ap (λ w. c.self.inside.told ++ w) c.as_slice.ensures.value;
  kept = refl;
  time = refl;
})
