-- What a file and the disk below it have of a content that is held in memory.
use Rattle.std.specs.Prelude.{◌⊎◌, ℕ, ◌+◌, ◌<◌, ◌≤◌, List, [], ◌∷◌, length, slice_index}
use Rattle.swim_disk.specs.Deeds.{Backing, backing_of}
use Rattle.swim_disk.specs.declared.backing.Deed.{Deed}
use Rattle.swim_disk.specs.declared.cached.CachedFile.{CachedFile}
use Rattle.swim_disk.specs.declared.cached.Span.{Span}

-- one of these ranges has the offset i
abbrev pub InSpans : List Span → ℕ → Type 0
InSpans [] i = ⊥
InSpans (span ∷ spans) i = ((span.from ≤ i) × (i < span.until)) ⊎ InSpans spans i

-- one of these ranges, by offset and length, has the byte at i
abbrev pub InRanges : List (ℕ × ℕ) → ℕ → Type 0
InRanges [] i = ⊥
InRanges (range ∷ ranges) i = ((range.0 ≤ i) × (i < range.0 + range.1)) ⊎ InRanges ranges i

-- the ranges lie within the content
abbrev pub AreInside : List ℕ → List Span → Type 0
AreInside content [] = Unit
AreInside content (span ∷ spans) =
    (span.from ≤ span.until) × (span.until ≤ length content) × AreInside content spans

-- a file, by what was done to it
abbrev pub backing_in : {B : Type 0} → (B → List Deed) → CachedFile B → Backing
backing_in deeds file = backing_of (deeds file.below)

-- the disk has all of this content but for these ranges
abbrev pub HasBut : List Span → List ℕ → Backing → Type 0
HasBut spans content f =
    (i : ℕ) → i < length content → f.kept i (slice_index content i) ⊎ InSpans spans i

-- what the content has in this range waits for the next sync
abbrev pub WaitsIn : Span → List ℕ → Backing → Type 0
WaitsIn span content f =
    (i : ℕ) → span.from ≤ i → i < span.until → f.waiting i (slice_index content i)
