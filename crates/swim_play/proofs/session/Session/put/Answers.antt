use Rattle.swim_node.specs.Node.{owner_of}
use Rattle.swim_play.proofs.Sessions.{session-put}
use Rattle.swim_play.proofs.session.Session.put.Goals as goal

pub invariant_of-self : goal.invariant_of-self
invariant_of-self c =
    session-put (owner_of c.self.inside.setup.settings) c.self.inside.runs.items c.self.inside.lives.items c.self.inside.apart c.self.inside.stage c.args.disk c.self.invariant
