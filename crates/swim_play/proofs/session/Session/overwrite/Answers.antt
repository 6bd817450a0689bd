use Rattle.std.proofs.Common.{◌≡◌, Some, true, refl, sym, ap, ◌∙◌, subst}
use Rattle.swim_disk.specs.Fault.{inner_of}
use Rattle.swim_disk.specs.declared.mem.MemDisk.{MemDisk}
use Rattle.swim_node.specs.Node.{owner_of}
use Rattle.swim_script.specs.Patches.{IsPatched}
use Rattle.swim_play.specs.contracts.session.Session.{the_view}
use Rattle.swim_play.specs.declared.session.SessionStage.TheVariants.{Idle}
use Rattle.swim_play.specs.Life.{PlayDisk}
use Rattle.swim_play.specs.Play.{Playing, Becomes}
use Rattle.swim_play.specs.Machinery.Session.{disk_in}
use Rattle.swim_play.proofs.Openings.{if-disk}
use Rattle.swim_play.proofs.Sessions.{session-put}
use Rattle.swim_play.proofs.session.Session.overwrite.Goals as goal

pub invariant_of-self-in-Idle : goal.invariant_of-self-in-Idle
invariant_of-self-in-Idle c =
    session-put (owner_of c.self.inside.setup.settings) c.self.inside.runs.items c.self.inside.lives.items c.self.inside.apart c.self.inside.stage c.replace.new.self c.self.invariant

pub returns : goal.returns
returns c =
    let p = c.args.self.now in
    let patch = c.args.patch.now in
    let old = c.in-Idle.disk in
    let new = c.replace.new.self in
    let inner : c.inner.result.now ≡ inner_of old = c.inner.ensures in
    let patched =
    subst (λ (d : MemDisk). IsPatched patch.at patch.bytes.items (inner_of old) d) (sym c.replace.ensures.new)
    (subst (λ (d : MemDisk). IsPatched patch.at patch.bytes.items d c.in_ok-inner-in-Idle.inner) inner c.in_ok-inner-in-Idle.ensures) in
    let at : p.disk ≡ Some old = sym (ap (λ (p : Playing). p.disk) c.self.view_is) ∙ ap disk_in c.in-Idle.is in
    let left : the_view (record c.self.inside { apart = true; stage = Idle new }) ≡ record p { disk = Some new; apart = true } =
    subst (λ (p : Playing). the_view (record c.self.inside { apart = true; stage = Idle new }) ≡ record p { disk = Some new; apart = true }) c.self.view_is (rw c.in-Idle.is refl) in
    if-disk p _ old (λ (disk : PlayDisk). Becomes (λ now. IsPatched patch.at patch.bytes.items (inner_of disk) (inner_of now)) (record p { apart = true }) _) at (new, patched, left)
