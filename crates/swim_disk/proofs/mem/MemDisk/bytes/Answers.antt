use Rattle.std.proofs.Common.{◌∙◌, sym}
use Rattle.std.proofs.lemmas.Result.{IfOk-weaker}
use Rattle.swim_disk.proofs.Making.{history_made, made_same}
use Rattle.swim_disk.proofs.mem.MemDisk.bytes.Goals as goal

pub returns : goal.returns
returns c =
    let self = c.args.self.now in
    let same = made_same self.start.items c.deref.result.now self.writes.items c.deref-2.result.now c.deref.ensures.value c.deref-2.ensures.value in
    IfOk-weaker c.bytes_made.result _ _ (λ v is. is ∙ same ∙ sym (history_made self.start.items self.history self.writes.items self.synced self.kept)) c.bytes_made.ensures
