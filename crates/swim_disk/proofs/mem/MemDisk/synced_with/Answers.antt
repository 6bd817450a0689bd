use Rattle.std.proofs.Common.{◌∙◌, ap, arith, List, ℕ, length, take}
use Rattle.swim_disk.specs.declared.past.Call.{Call}
use Rattle.swim_disk.proofs.Making.{first_shorter, made_same}
use Rattle.swim_disk.proofs.mem.MemDisk.synced_with.Goals as goal

pub bytes_made-requires : goal.bytes_made-requires
bytes_made-requires c =
    let self = c.args.self.now in
    let same = made_same self.start.items c.deref.result.now (take self.synced self.writes.items) (take self.synced c.deref-2.result.now) c.deref.ensures.value (ap (λ (l : List Call). take self.synced l) c.deref-2.ensures.value) in
    omega (arith, ap (λ (l : List ℕ). length l) same, first_shorter self.start.items self.writes.items self.synced, self.size)

pub overlay-requires-clause-size : goal.overlay-requires-clause-size
overlay-requires-clause-size c =
    let self = c.args.self.now in
    let same = made_same self.start.items c.deref.result.now (take self.synced self.writes.items) (take self.synced c.deref-2.result.now) c.deref.ensures.value (ap (λ (l : List Call). take self.synced l) c.deref-2.ensures.value) in
    omega (arith, ap (λ (l : List ℕ). length l) (c.in_ok-synced.ensures ∙ same), first_shorter self.start.items self.writes.items self.synced, self.size)
