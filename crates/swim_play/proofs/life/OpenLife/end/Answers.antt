use Rattle.swim_play.proofs.life.OpenLife.end.Goals as goal

pub returns-clause-lived : goal.returns-clause-lived
returns-clause-lived c =
    let living = c.self.invariant.living in
    rw (← c.self.view_is) (rw (← living.same_owner) (c.life_may_end.ensures (tt {0}) _ _ _ _ living))
