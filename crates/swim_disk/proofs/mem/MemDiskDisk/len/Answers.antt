use Rattle.std.proofs.Common.{◌∙◌, ap, sym, List, ℕ, length}
use Rattle.swim_disk.proofs.Making.{history_made, made_same}
use Rattle.swim_disk.proofs.mem.MemDiskDisk.len.Goals as goal

pub returns-clause-len : goal.returns-clause-len
returns-clause-len c =
    let self = c.args.self.now in
    let same = made_same self.start.items c.deref.result.now self.writes.items c.deref-2.result.now c.deref.ensures.value c.deref-2.ensures.value in
    c.count_made.ensures ∙ ap (λ (l : List ℕ). length l) (same ∙ sym (history_made self.start.items self.history self.writes.items self.synced self.kept))
