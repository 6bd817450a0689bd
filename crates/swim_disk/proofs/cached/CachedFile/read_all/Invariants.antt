use Rattle.std.proofs.Common.{◌≡◌, ℕ, ◌<◌, ◌≤◌, length, slice_index}
use Rattle.swim_disk.specs.Cache.{backing_in}
use Rattle.swim_disk.proofs.cached.CachedFile.read_all.Given as goal

-- the disk has the first `done` bytes of the buffer
abbrev pub invariant-loop : goal.invariant-loop
invariant-loop g l =
    let file = backing_in g.B.BackingFile.deeds l.self in
    (l.done ≤ length l.buffer)
    × (length l.buffer ≡ length l.fn.buffer)
    × file.dropped
    × ((n : ℕ) → (backing_in g.B.BackingFile.deeds l.fn.self).measured n → file.measured n)
    × ((i : ℕ) → i < l.done → file.kept i (slice_index l.buffer i))
