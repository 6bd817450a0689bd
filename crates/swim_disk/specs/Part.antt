-- A part of a disk that keeps its bytes.
use Rattle.std.specs.Prelude.{◌≡◌, ℕ, ◌+◌, ◌<◌, ◌≤◌, List, length, slice_index}
use Rattle.swim_disk.specs.Disk.{DiskState}

-- the content has these bytes from `at` on
pub record Has (at : ℕ) (bytes content : List ℕ) : Type 0 where
  pub within : at + length bytes ≤ length content
  pub same : (i : ℕ) → i < length bytes → slice_index content (at + i) ≡ slice_index bytes i

-- so has whatever a crash now may leave, and what a read gives with it
abbrev pub AlwaysHas : ℕ → List ℕ → DiskState → Type 0
AlwaysHas at bytes disk = (c : List ℕ) → disk.images c → Has at bytes c

-- whatever n bytes always were at `at`, they still are
abbrev pub KeepsPart : ℕ → ℕ → DiskState → DiskState → Type 0
KeepsPart at n old new =
    (bytes : List ℕ) → length bytes ≡ n → AlwaysHas at bytes old → AlwaysHas at bytes new
