-- A disk in memory by the writes that it keeps.
use Rattle.std.specs.Prelude.{◌≡◌, ℕ, ◌+◌, ◌≤◌, List, [], ◌∷◌, length, take, drop, replicate}
use Rattle.std.specs.Prelude.{Bool, true, false, get_or}
use Rattle.swim_disk.specs.Disk.{overlaid}
use Rattle.swim_disk.specs.Replay.{Disk, fresh, replay}
use Rattle.swim_disk.specs.declared.past.Call.{Call}
use Rattle.swim_disk.specs.declared.past.Call.TheVariants.{Write, Sync}

-- there is no sync among the calls
abbrev pub are_writes : List Call → Bool
are_writes [] = true
are_writes (Write at bytes ∷ calls) = are_writes calls
are_writes (Sync ∷ calls) = false

abbrev pub AreWrites : List Call → Type 0
AreWrites calls = are_writes calls ≡ true

-- what these writes make of some bytes
abbrev pub made : List ℕ → List Call → List ℕ
made start [] = start
made start (Write at bytes ∷ writes) = made (overlaid start at bytes.items) writes
made start (Sync ∷ writes) = made start writes

-- the disk that has these bytes at first and then these writes, of which the first ones are synced
abbrev pub kept_by : List ℕ → List Call → ℕ → Disk
kept_by start writes synced = replay (fresh (made start (take synced writes))) (drop synced writes)

-- the first call writes each byte that the second one writes
abbrev pub Covers : Call → Call → Type 0
Covers (Write at bytes) (Write from old) =
    (at ≤ from) × (from + length old.items ≤ at + length bytes.items)
Covers Sync call = ⊥
Covers (Write at bytes) Sync = ⊥

-- the same call, with this byte in place of each that it writes
abbrev pub IsFilled : ℕ → Call → Call → Type 0
IsFilled byte (Write at bytes) (Write from filled) =
    (from ≡ at) × (filled.items ≡ replicate (length bytes.items) byte)
IsFilled byte Sync Sync = Unit {0}
IsFilled byte (Write at bytes) Sync = ⊥
IsFilled byte Sync (Write at bytes) = ⊥

-- from this place on the calls are filled, and those before it are as they were
pub record AreFilled (byte from : ℕ) (old new : List Call) : Type 0 where
  pub size : length new ≡ length old
  pub before : (i : ℕ) → i + 1 ≤ from → get_or new i Sync ≡ get_or old i Sync
  pub filled : (i : ℕ) → from ≤ i → IsFilled byte (get_or old i Sync) (get_or new i Sync)
