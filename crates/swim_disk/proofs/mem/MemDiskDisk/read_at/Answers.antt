use Rattle.std.proofs.Common.{◌≡◌, ◌∙◌, ap, arith, sym, List, ℕ, length, take, drop}
use Rattle.swim_disk.specs.Replay.{fresh, replay}
use Rattle.swim_disk.proofs.Making.{history_made, made_same}
use Rattle.swim_disk.proofs.mem.MemDiskDisk.read_at.Goals as goal
use Rattle.swim_disk.proofs.mem.MemDiskDisk.read_at.Goals.{then-at-len-via-then-at-len, then-at-len-via-else-at-len+then-buffer-len}

pub returns-then-at-len-clause-past : goal.returns-then-at-len-clause-past
returns-then-at-len-clause-past c =
    let self = c.args.self.now in
    let same = made_same self.start.items c.deref.result.now self.writes.items c.deref-2.result.now c.deref.ensures.value c.deref-2.ensures.value in
    let content = same ∙ sym (history_made self.start.items self.history self.writes.items self.synced self.kept) in
    let len : c.count_made-len.result ≡ length (replay (fresh self.start.items) self.history).content = c.count_made-len.ensures ∙ ap (λ (l : List ℕ). length l) content in (
      c.fail.ensures.fault,
      elim c.then-at-len.branch [
        | then-at-len-via-then-at-len w ↦ omega (arith, len, w.if-at-len.true)
        | then-at-len-via-else-at-len+then-buffer-len w ↦ omega (arith, len, w.if-at-len.false, w.if-buffer-len.true)
      ],
    )

pub returns-clause-within : goal.returns-clause-within
returns-clause-within c =
    let self = c.args.self.now in
    let same = made_same self.start.items c.deref.result.now self.writes.items c.deref-2.result.now c.deref.ensures.value c.deref-2.ensures.value in
    let content = same ∙ sym (history_made self.start.items self.history self.writes.items self.synced self.kept) in
    omega (arith, c.count_made-len.ensures, ap (λ (l : List ℕ). length l) content, c.if-at-len.false, c.if-buffer-len.false)

pub returns-clause-read : goal.returns-clause-read
returns-clause-read c =
    let self = c.args.self.now in
    let same = made_same self.start.items c.deref-3.result.now self.writes.items c.deref-4.result.now c.deref-3.ensures.value c.deref-4.ensures.value in
    let content = same ∙ sym (history_made self.start.items self.history self.writes.items self.synced self.kept) in
    c.read_made.ensures ∙ ap (λ (l : List ℕ). take (length c.args.buffer.now) (drop c.args.at l)) content
