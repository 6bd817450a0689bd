use Rattle.std.proofs.Common.{refl, sym}
use Rattle.swim_news.proofs.Order.{after_by, after_none}
use Rattle.swim_news.proofs.rows.comes_after.Goals as goal

pub returns-in-Some : goal.returns-in-Some
returns-in-Some c = after_by _ _ c.in-Some.last.now _ c.requires (sym c.in-Some.ensures.value) (sym c.lt.ensures)

pub returns-in-None : goal.returns-in-None
returns-in-None c = (λ _. after_none _ _ (sym c.in-None.ensures.value), λ _. refl)
