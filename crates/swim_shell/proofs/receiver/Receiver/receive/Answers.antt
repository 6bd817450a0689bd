use Rattle.std.proofs.Common.{◌≡◌, None, refl, rules}
use Rattle.swim_shell.proofs.Receiving.{takes_answer}
use Rattle.swim_shell.proofs.receiver.Receiver.receive.Goals as goal

pub returns-in-Ok-None-clause-takes : goal.returns-in-Ok-None-clause-takes
returns-in-Ok-None-clause-takes g c =
    let none : c.self.inside.kept ≡ None = search rules in
    rw (← c.self.view_is) (takes_answer _ _ _ _ _ none c.in-Ok-None.ensures (rw c.in-Ok-None.field-0-is refl) (rw c.in-Ok-None.field-0-is refl))
