use Rattle.std.proofs.Common.{◌∙◌, ap, sym, subst, ℕ, List}
use Rattle.std.proofs.lemmas.Result.{on_ok_weaker}
use Rattle.swim_disk.specs.MemDisk.{disk_of}
use Rattle.swim_disk.specs.Machinery.Patch.{Patched, written_beside}
use Rattle.swim_disk.specs.Replay.{Disk, written}
use Rattle.swim_disk.proofs.Patched.{patched-write}
use Rattle.swim_disk.proofs.beside.repeat_call.Goals as goal

pub returns-in-Write-clause-patches : goal.returns-in-Write-clause-patches
returns-in-Write-clause-patches c =
    let old = disk_of c.args.disk.now in
    let begin = c.in-Write.begin in
    let w = c.in-Write.bytes.items in
    rw c.in-Write.is (on_ok_weaker c.write_beside.result
    (λ is p size d h.
    subst (λ (e : Disk). Patched c.args.at p (written begin w d) e) (sym (is ∙ ap (λ (l : List ℕ). written_beside c.args.at c.args.count begin l old) c.deref.ensures.value))
    (subst (λ n. Patched c.args.at p (written begin w d) (written_beside c.args.at n begin w old)) size (patched-write c.args.at p begin w d old h)))
    c.write_beside.ensures.done)
