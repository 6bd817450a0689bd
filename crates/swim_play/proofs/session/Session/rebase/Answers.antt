use Rattle.swim_node.specs.Node.{owner_of}
use Rattle.std.proofs.Common.{subst}
use Rattle.swim_play.specs.declared.session.SessionStage.{SessionStage}
use Rattle.swim_play.specs.Machinery.Session.{IsSession}
use Rattle.swim_play.proofs.Sessions.{session-rebased}
use Rattle.swim_play.proofs.session.Session.rebase.Goals as goal

pub invariant_of-self : goal.invariant_of-self
invariant_of-self c =
    let session = c.self.inside in
    let going = subst (λ (s : SessionStage). IsSession (owner_of session.setup.settings) session.apart session.runs.items session.lives.items s) c.in-Open.is c.self.invariant in
    session-rebased (owner_of session.setup.settings) session.runs.items session.lives.items session.apart c.in-Open.living c.rebase.new.self going c.rebase.ensures.opened.0 c.rebase.ensures.opened.1
