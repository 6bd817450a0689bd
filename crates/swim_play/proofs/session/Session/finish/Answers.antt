use Rattle.swim_node.specs.Node.{owner_of}
use Rattle.std.specs.Prelude.{All}
use Rattle.swim_play.specs.Play.{IsRun}
use Rattle.swim_play.proofs.Sessions.{session-run}
use Rattle.swim_play.proofs.session.Session.finish.Goals as goal

pub returns-clause-lived : goal.returns-clause-lived
returns-clause-lived c =
    let session = c.self-2.inside in
    c.close_run.ensures.kept (rw c.reserve.ensures.items c.self-2.invariant.ended) (session-run (owner_of session.setup.settings) session.apart session.runs.items session.lives.items session.stage c.self-2.invariant)

pub returns-clause-rising : goal.returns-clause-rising
returns-clause-rising c =
    let session = c.self-2.inside in
    let lived : All IsRun c.close_run.new.runs.items = c.close_run.ensures.kept (rw c.reserve.ensures.items c.self-2.invariant.ended) (session-run (owner_of session.setup.settings) session.apart session.runs.items session.lives.items session.stage c.self-2.invariant) in
    λ k d less. c.own_numbers_rise.ensures (lived k d less).owner _ (lived k d less).lives_are
