use Rattle.std.proofs.Common.{List, ℕ, refl, sym, ap, arith, length, length-drop, ◌-◌, ◌∙◌, subst, take, drop}
use Rattle.std.proofs.lemmas.List.{take_all}
use Rattle.swim_disk.specs.declared.past.Call.{Call}
use Rattle.swim_disk.specs.Machinery.Made.{made}
use Rattle.swim_disk.specs.Machinery.Patch.{Patched}
use Rattle.swim_disk.specs.MemDisk.{disk_of}
use Rattle.swim_disk.specs.Part.{Has}
use Rattle.swim_disk.specs.Replay.{Disk, fresh}
use Rattle.swim_disk.specs.declared.mem.Choice.TheVariants.{Keep}
use Rattle.swim_disk.proofs.Parts.{overlaid_has}
use Rattle.swim_disk.proofs.Patched.{patched-made, patched-left}
use Rattle.swim_disk.proofs.mem.MemDisk.overwritten.Goals as goal

pub returns-clause-name : goal.returns-clause-name
returns-clause-name c = c.in_ok-repeat_beside.ensures.name ∙ c.new-disk.ensures.name

pub returns-clause-stands : goal.returns-clause-stands
returns-clause-stands c =
    let at = c.args.at in
    let bytes = c.args.bytes.now in
    c.in_ok-repeat_beside.ensures.kept bytes refl (λ image left. subst (λ (l : List ℕ). Has at bytes l) (sym (c.new-disk.ensures.settled image left ∙ c.new-disk.ensures.content ∙ c.in-Ok.ensures.bytes)) (overlaid_has _ at bytes))

pub returns-clause-left : goal.returns-clause-left
returns-clause-left c choice =
    let self = c.args.self.now in
    let base = made self.start.items (take self.synced self.writes.items) in
    let calls = drop self.synced self.writes.items in
    let all = c.deref.result.now in
    let given = take_all (length all - self.synced) (drop self.synced all) (omega (arith, length-drop self.synced all)) ∙ ap (λ (l : List Call). drop self.synced l) c.deref.ensures.value in
    let first = c.new-disk.ensures.fresh ∙ ap fresh c.in-Ok.ensures.bytes in
    patched-left c.args.at c.args.bytes.now (disk_of self) (disk_of c.repeat_beside.new.disk) choice
    (subst (λ (d : Disk). Patched c.args.at c.args.bytes.now d (disk_of c.repeat_beside.new.disk)) (sym self.kept)
    (patched-made c.args.at c.args.bytes.now base (disk_of c.new-disk.result) calls (take (length all - self.synced) (drop self.synced all)) (disk_of c.repeat_beside.new.disk) first given c.in_ok-repeat_beside.ensures.patches))

pub returns-clause-content : goal.returns-clause-content
returns-clause-content c = returns-clause-left c Keep
