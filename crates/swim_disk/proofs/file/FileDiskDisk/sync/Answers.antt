use Rattle.std.proofs.Common.{List, subst, sym, ap, ◌∙◌, [], ◌++◌, ◌∷◌, Ok}
use Rattle.swim_disk.specs.Disk.{Syncs}
use Rattle.swim_disk.specs.File.{FileView, file_state}
use Rattle.swim_disk.specs.declared.disk.DiskFault.{DiskFault}
use Rattle.swim_disk.specs.declared.past.Call.{Call}
use Rattle.swim_disk.specs.declared.past.Call.TheVariants.{Sync}
use Rattle.swim_disk.proofs.Filing.{told_by}
use Rattle.swim_disk.proofs.Recorded.{memory_of, sync_added}
use Rattle.swim_disk.proofs.file.FileDiskDisk.sync.Goals as goal

pub returns-in-Ok-clause-syncs : goal.returns-in-Ok-clause-syncs
returns-in-Ok-clause-syncs c =
    let self = c.args.self.now in
    let new = c.settle.new.self in
    subst (λ (l : List Call). Syncs {E = DiskFault} (Ok (tt {0})) (file_state self) (memory_of [] l (told_by new)))
    (ap (λ (v : FileView). v.calls ++ Sync ∷ []) (sym c.self.view_is) ∙ sym (ap (λ (v : FileView). v.calls) c.in-Ok.ensures.done))
    (sync_added [] self.calls (told_by self) (told_by new))
