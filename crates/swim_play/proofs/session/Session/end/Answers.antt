use Rattle.swim_node.specs.Node.{owner_of}
use Rattle.std.proofs.Common.{sym, ◌∙◌, subst}
use Rattle.swim_play.specs.declared.session.SessionStage.{SessionStage}
use Rattle.swim_play.specs.Machinery.Session.{IsSession}
use Rattle.swim_play.proofs.Sessions.{session-ended}
use Rattle.swim_play.proofs.session.Session.end.Goals as goal

pub invariant_of-self-2 : goal.invariant_of-self-2
invariant_of-self-2 c =
    let session = c.self.inside in
    let going = subst (λ (s : SessionStage). IsSession (owner_of session.setup.settings) session.apart session.runs.items session.lives.items s) (sym c.replace.ensures.value ∙ c.in-Open.is) c.self.invariant in
    rw (c.push_reserved.ensures.items, c.reserve.ensures.items, c.end-life.ensures.life, c.end-life.ensures.disk)
    (session-ended (owner_of session.setup.settings) session.runs.items session.lives.items session.apart c.in-Open.living going c.end-life.ensures.lived c.end-life.ensures.mine)
