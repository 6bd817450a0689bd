use Rattle.std.proofs.Common.{refl, ◌∙◌, sym}
use Rattle.swim_serve.proofs.Tending.{tending_begun, tending_none}
use Rattle.swim_serve.proofs.desk.DeskWorker.begin.Goals as goal

pub returns-in_default : goal.returns-in_default
returns-in_default g c p = rw (← c.self.view_is) (tending_none _ _ _ p (sym c.take.ensures.value ∙ c.in_default.is) refl c.take.ensures.after refl)

pub returns : goal.returns
returns g c p = rw (← c.self.view_is) (tending_begun _ _ _ c.in-Some.conversation c.begin.new.self p (sym c.take.ensures.value ∙ c.in-Some.is) refl refl refl c.begin.ensures)
