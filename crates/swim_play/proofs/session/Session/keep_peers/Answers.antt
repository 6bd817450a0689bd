use Rattle.std.proofs.Common.{ap, subst, sym, ◌∙◌}
use Rattle.swim_node.specs.Lives.{Life}
use Rattle.swim_node.specs.Node.{owner_of}
use Rattle.swim_play.specs.contracts.session.Session.{the_view}
use Rattle.swim_play.specs.declared.session.SessionStage.{SessionStage}
use Rattle.swim_play.specs.declared.session.SessionStage.TheVariants.{Open}
use Rattle.swim_play.specs.Life.{PlayDisk}
use Rattle.swim_play.specs.Machinery.Session.{IsSession, events_in, life_in}
use Rattle.swim_play.specs.Play.{Playing, WritesState, asked_of}
use Rattle.swim_play.proofs.Openings.{no-events, written-is}
use Rattle.swim_play.proofs.Sessions.{session-rebased}
use Rattle.swim_play.proofs.session.Session.keep_peers.Goals as goal

pub invariant_of-self : goal.invariant_of-self
invariant_of-self c =
    let session = c.self.inside in
    let going = subst (λ (s : SessionStage). IsSession (owner_of session.setup.settings) session.apart session.runs.items session.lives.items s) c.in-Open.is c.self.invariant in
    session-rebased (owner_of session.setup.settings) session.runs.items session.lives.items session.apart c.in-Open.living c.keep_peers.new.self going
    (ap (λ (l : Life PlayDisk). l.settings) c.keep_peers.ensures.kept) (ap (λ (l : Life PlayDisk). l.opened) c.keep_peers.ensures.kept)

pub keep_peers-requires : goal.keep_peers-requires
keep_peers-requires c = record {
  empty = no-events c.in-Open.living.entries (ap (λ (s : SessionStage). events_in (life_in s)) (sym c.in-Open.is) ∙ ap (λ (p : Playing). events_in p.life) c.self.view_is ∙ c.requires.empty);
}

pub returns : goal.returns
returns c =
    let session = c.self.inside in
    let new = c.keep_peers.new.self in
    subst (λ (p : Playing). WritesState p (the_view (record session { stage = Open new }))) c.self.view_is
    (written-is (the_view session) c.in-Open.living new (ap life_in c.in-Open.is) (ap asked_of c.keep_peers.ensures.kept))
