use Rattle.std.proofs.Common.{arith}
use Rattle.swim_play.proofs.Lives.{ends-with}
use Rattle.swim_play.proofs.life.OpenLife.last.Goals as goal

pub returns-clause-some : goal.returns-clause-some
returns-clause-some c =
    rw (← c.self.view_is) (ends-with c.self.inside.node.entries c.last.result.now (omega arith) c.last.ensures.last)
