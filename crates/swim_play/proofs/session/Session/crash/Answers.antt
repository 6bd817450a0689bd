use Rattle.std.proofs.Common.{◌≡◌, Some, refl, sym, ap, ◌∙◌, subst}
use Rattle.swim_node.specs.Node.{owner_of}
use Rattle.swim_play.specs.contracts.session.Session.{the_view}
use Rattle.swim_play.specs.declared.session.SessionStage.{SessionStage}
use Rattle.swim_play.specs.declared.session.SessionStage.TheVariants.{Idle}
use Rattle.swim_play.specs.Life.{PlayDisk}
use Rattle.swim_play.specs.Play.{Playing, Becomes, IsCrashed}
use Rattle.swim_play.specs.Machinery.Session.{IsSession, disk_in}
use Rattle.swim_play.proofs.Openings.{if-disk}
use Rattle.swim_play.proofs.Sessions.{session-crashed}
use Rattle.swim_play.proofs.session.Session.crash.Goals as goal

pub invariant_of-self : goal.invariant_of-self
invariant_of-self c =
    let session = c.self.inside in
    let owner = owner_of session.setup.settings in
    let idle = subst (λ (s : SessionStage). IsSession owner session.apart session.runs.items session.lives.items s) c.in-Idle.is c.self.invariant in
    session-crashed owner session.runs.items session.lives.items session.apart c.in-Idle.disk c.crash_disk.new.disk idle c.crash_disk.ensures.image c.crash_disk.ensures.settled

pub returns : goal.returns
returns c =
    let p = c.args.self.now in
    let new = c.crash_disk.new.disk in
    let at : p.disk ≡ Some c.in-Idle.disk = sym (ap (λ (p : Playing). p.disk) c.self.view_is) ∙ ap disk_in c.in-Idle.is in
    let left : the_view (record c.self.inside { stage = Idle new }) ≡ record p { disk = Some new } =
    subst (λ (p : Playing). the_view (record c.self.inside { stage = Idle new }) ≡ record p { disk = Some new }) c.self.view_is (rw c.in-Idle.is refl) in
    if-disk p _ c.in-Idle.disk (λ (disk : PlayDisk). Becomes (IsCrashed c.args.choice disk) p _) at (new, c.crash_disk.ensures, left)
