use Rattle.std.proofs.Common.{ap, subst}
use Rattle.swim_play.specs.contracts.session.Session.{the_view}
use Rattle.swim_play.specs.declared.session.SessionStage.TheVariants.{Open}
use Rattle.swim_play.specs.Play.{Playing}
use Rattle.swim_play.specs.Machinery.Session.{IsAnswered, disk_in, life_in}
use Rattle.swim_play.proofs.Openings.{answered-is}
use Rattle.swim_play.proofs.session.Session.happen.Goals as goal

pub returns : goal.returns
returns c =
    let session = c.self.inside in
    let new = c.happen.new.self in
    subst (λ (p : Playing). IsAnswered c.args.event p.life p (the_view (record session { stage = Open new })) c.happen.result) c.self.view_is
    (answered-is (the_view session) c.in-Open.living new c.args.event c.happen.result (ap disk_in c.in-Open.is) (ap life_in c.in-Open.is) c.happen.ensures.ok c.happen.ensures.refused c.happen.ensures.err)
