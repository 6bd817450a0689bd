use Rattle.std.proofs.Common.{◌⊎◌, ℕ, ◌<◌, length, drop, slice_index}
use Rattle.swim_disk.specs.Cache.{backing_in, HasBut, InSpans}
use Rattle.swim_disk.specs.Deeds.{Comes}
use Rattle.swim_disk.proofs.cached.CachedFile.write_again.Given as goal

-- what does not come is still to be written again
abbrev pub invariant-loop-span : goal.invariant-loop-span
invariant-loop-span g l =
    let file = backing_in g.B.BackingFile.deeds l.self in
    HasBut l.spans l.content file
    × ((i : ℕ) → i < length l.content → Comes file i (slice_index l.content i) ⊎ InSpans (drop l.span-index l.spans) i)
