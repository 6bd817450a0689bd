-- What a file has on its disk, by the calls of the system that were made to it.
use Rattle.std.specs.Prelude.{◌≡◌, ◌⊎◌, ℕ, ◌+◌, ◌-◌, ◌<◌, ◌≤◌, List, [], ◌∷◌, length, take}
use Rattle.std.specs.Prelude.{slice_index, Result, Ok, Err}
use Rattle.swim_disk.specs.declared.backing.Deed.{Deed}
use Rattle.swim_disk.specs.declared.backing.Deed.TheVariants.{Measured, Read, Wrote, WriteFailed}
use Rattle.swim_disk.specs.declared.backing.Deed.TheVariants.{Synced, SyncFailed, Dropped}

-- a write of these bytes: so many of the first were taken, or any of them may have been
abbrev pub write_deed : {E : Type 0} → ℕ → List ℕ → Result ℕ E → Deed
write_deed at bytes (Ok count) = Wrote at (take count bytes)
write_deed at bytes (Err fault) = WriteFailed at bytes

abbrev pub sync_deed : {T E : Type 0} → Result T E → Deed
sync_deed (Ok done) = Synced
sync_deed (Err fault) = SyncFailed

-- bytes from `at` on have b at i
abbrev pub IsByteOf : ℕ → List ℕ → ℕ → ℕ → Type 0
IsByteOf at bytes i b =
    (at ≤ i) × (i < at + length bytes) × (slice_index bytes (i - at) ≡ b)

-- the offset i is none of the n offsets from `at` on
abbrev pub LiesBeside : ℕ → ℕ → ℕ → Type 0
LiesBeside at n i = (i < at) ⊎ (at + n ≤ i)

-- a file and the disk below it: which byte is at which offset
pub record Backing : Type 1 where
  -- what the disk has, and a crash leaves
  pub kept : ℕ → ℕ → Type 0
  -- what the next sync makes the disk have, if it says Ok
  pub waiting : ℕ → ℕ → Type 0
  -- nothing was written since a sync that said Ok
  pub clean : Type 0
  -- what is read now comes from the disk
  pub dropped : Type 0
  -- how many bytes the system has said that there are
  pub measured : ℕ → Type 0

-- a file that other processes have had: nothing is known of it
abbrev pub taken_over : Backing
taken_over = record {
  kept = λ i b. ⊥;
  waiting = λ i b. ⊥;
  clean = ⊥;
  dropped = ⊥;
  measured = λ n. ⊥;
}

-- A byte that is written over is in doubt until a sync says Ok. A write that fails may leave
-- anything in its range, and a sync that fails may lose all that waits: no later one writes it,
-- though it says Ok. Once memory is dropped, with all of it synced, a read shows the disk.
abbrev pub after : Deed → Backing → Backing
after (Measured length) f = record f { measured = λ n. n ≡ length }
after (Read at bytes) f =
    record f { kept = λ i b. f.kept i b ⊎ (f.dropped × IsByteOf at bytes i b) }
after (Wrote at bytes) f = record f {
  kept = λ i b. f.kept i b × LiesBeside at (length bytes) i;
  waiting = λ i b. (f.waiting i b × LiesBeside at (length bytes) i) ⊎ IsByteOf at bytes i b;
  clean = ⊥;
  dropped = ⊥;
}
after (WriteFailed at bytes) f = record f {
  kept = λ i b. f.kept i b × LiesBeside at (length bytes) i;
  waiting = λ i b. f.waiting i b × LiesBeside at (length bytes) i;
  clean = ⊥;
  dropped = ⊥;
}
after Synced f = record f {
  kept = λ i b. f.kept i b ⊎ f.waiting i b;
  waiting = λ i b. ⊥;
  clean = Unit {0};
}
after SyncFailed f = record f { waiting = λ i b. ⊥; clean = ⊥; dropped = ⊥ }
after Dropped f = record f { dropped = f.clean }

-- after all of these, the oldest first
abbrev pub after_all : Backing → List Deed → Backing
after_all f [] = f
after_all f (deed ∷ deeds) = after_all (after deed f) deeds

-- a file by what was done to it since it was taken over
abbrev pub backing_of : List Deed → Backing
backing_of deeds = after_all taken_over deeds

-- the disk has this byte, or the next sync that says Ok makes it have it
abbrev pub Comes : Backing → ℕ → ℕ → Type 0
Comes f i b = f.kept i b ⊎ f.waiting i b

-- the disk has all of this content
abbrev pub KeepsAll : List ℕ → Backing → Type 0
KeepsAll content f = (i : ℕ) → i < length content → f.kept i (slice_index content i)

-- it has, or gets from the next sync that says Ok
abbrev pub ComesAll : List ℕ → Backing → Type 0
ComesAll content f = (i : ℕ) → i < length content → Comes f i (slice_index content i)

-- nothing but the n bytes from `at` on was written
abbrev pub StaysBeside : ℕ → ℕ → Backing → Backing → Type 0
StaysBeside at n old new = (i b : ℕ) → LiesBeside at n i
    → (old.kept i b → new.kept i b) × (old.waiting i b → new.waiting i b)

-- these bytes from `at` on wait for the next sync
abbrev pub AllWait : ℕ → List ℕ → Backing → Type 0
AllWait at bytes f = (i : ℕ) → at ≤ i → i < at + length bytes
    → f.waiting i (slice_index bytes (i - at))
