use Rattle.std.proofs.Common.{◌≤◌, length}
use Rattle.swim_disk.specs.Cache.{backing_in}
use Rattle.swim_disk.specs.Deeds.{StaysBeside}
use Rattle.swim_disk.proofs.Caching.{Waits}
use Rattle.swim_disk.proofs.cached.CachedFile.write_all.Given as goal

-- the first `done` of the bytes wait for the next sync
abbrev pub invariant-loop : goal.invariant-loop
invariant-loop g l =
    let file = backing_in g.B.BackingFile.deeds l.self in
    (l.done ≤ length l.bytes)
    × StaysBeside l.at (length l.bytes) (backing_in g.B.BackingFile.deeds l.fn.self) file
    × Waits l.at l.done l.bytes file
