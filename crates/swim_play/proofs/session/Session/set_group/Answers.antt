use Rattle.swim_node.specs.Node.{owner_of}
use Rattle.swim_play.proofs.Sessions.{session-named}
use Rattle.swim_play.proofs.session.Session.set_group.Goals as goal

pub invariant_of-self : goal.invariant_of-self
invariant_of-self c =
    let session = c.self.inside in
    session-named (owner_of session.setup.settings) session.runs.items session.lives.items _ session.apart session.stage c.self.invariant
