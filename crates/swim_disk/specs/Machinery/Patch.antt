-- A disk that holds some bytes over what another one holds, whatever is done to it.
use Rattle.std.specs.Prelude.{◌≡◌, ℕ, ◌+◌, ◌-◌, max, min, List, length, take, drop}
use Rattle.swim_disk.specs.Disk.{overlaid}
use Rattle.swim_disk.specs.Replay.{Disk, written, fill_all}

-- a write beside the n bytes from `at` on: what comes before them, and then what comes past them
abbrev pub written_beside : ℕ → ℕ → ℕ → List ℕ → Disk → Disk
written_beside at n begin bytes d =
    written (max begin (at + n)) (drop (at + n - begin) bytes)
    (written (min begin at) (take (at - begin) bytes) d)

-- the new disk is the old one with these bytes at `at`: what a read gives, what
-- was synced, and what is left where all that was written since then is filled
pub record Patched (at : ℕ) (bytes : List ℕ) (old new : Disk) : Type 0 where
  pub content : new.content ≡ overlaid old.content at bytes
  pub synced : new.synced ≡ overlaid old.synced at bytes
  pub filled : (b : ℕ) (c : List ℕ)
      → fill_all b new.writes (overlaid c at bytes) ≡ overlaid (fill_all b old.writes c) at bytes

-- what was a disk with n bytes at `at` is what this makes of it, with these bytes
abbrev pub Patches : ℕ → ℕ → (Disk → Disk) → Disk → Disk → Type 0
Patches at n makes old new =
    (bytes : List ℕ) → length bytes ≡ n
    → (d : Disk) → Patched at bytes d old
    → Patched at bytes (makes d) new
