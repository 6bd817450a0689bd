-- A disk that fails by a plan, over another one.
use Rattle.std.specs.Prelude.{◌≡◌, ◌⊎◌, ℕ, ◌+◌, ◌-◌, ◌/◌, List, length, take, Result, Ok, Err}
use Rattle.std.specs.Prelude.{MatchResult}
use Rattle.swim_disk.specs.Count.{count_of}
use Rattle.swim_disk.specs.Disk.{DiskState, Counts, Writes}
use Rattle.swim_disk.specs.declared.disk.DiskFault.{DiskFault}
use Rattle.swim_disk.specs.declared.disk.DiskFault.TheVariants.{Planned}
use Rattle.swim_disk.specs.declared.fault.FaultDisk.{FaultDisk}

-- what the disk below tells, with so many failures more, and so many calls
abbrev pub fault_state : DiskState → ℕ → ℕ → DiskState
fault_state disk more calls = record disk { failures = disk.failures + more; calls = calls }

-- the disk below
abbrev pub inner_of : {D : Type 0} → FaultDisk D → D
inner_of f = f.inner

-- the failures of calls that were not passed on, or of which only a part was
abbrev pub own_failures : {D : Type 0} → FaultDisk D → ℕ
own_failures f = count_of f.failures

-- what a failing disk tells, by what the disk below tells
abbrev pub state_of : {D : Type 0} → (D → DiskState) → FaultDisk D → DiskState
state_of inside f = fault_state (inside f.inner) (own_failures f) (count_of f.asked)

-- a call that the disk below got once, and whose answer is its answer
pub record IsPassed {D T : Type 0} (state : D → DiskState) (result : Result T DiskFault)
    (old new : FaultDisk D) : Type 0 where
  pub own : own_failures new ≡ own_failures old
  pub once : (state (inner_of new)).calls ≡ (state (inner_of old)).calls + 1
  pub counts : Counts result (state (inner_of old)) (state (inner_of new))

-- a call that failed by the plan: the disk below did not get it
pub record IsPlanned {D T : Type 0} (result : Result T DiskFault) (old new : FaultDisk D)
    : Type 0 where
  pub fault : result ≡ Err Planned
  pub own : own_failures new ≡ own_failures old + 1
  pub below : inner_of new ≡ inner_of old

-- the first half of some bytes, rounded up
abbrev pub first_half : List ℕ → List ℕ
first_half bytes = take (length bytes - length bytes / 2) bytes

-- the answer to a torn write, by the answer of the disk below
abbrev pub torn_by : Result (Unit {0}) DiskFault → Result (Unit {0}) DiskFault
torn_by (Ok done) = Err Planned
torn_by (Err fault) = Err fault

-- a write that was torn by the plan: the disk below got the first half, once, and the call failed
pub record IsTorn {D : Type 0} (keeps : Type 0) (state : D → DiskState) (at : ℕ) (bytes : List ℕ)
    (result : Result (Unit {0}) DiskFault) (old new : FaultDisk D) : Type 0 where
  pub answer : Result (Unit {0}) DiskFault
  pub fault : result ≡ torn_by answer
  pub own : MatchResult answer (λ _. own_failures new ≡ own_failures old + 1)
      (λ _. own_failures new ≡ own_failures old)
  pub once : (state (inner_of new)).calls ≡ (state (inner_of old)).calls + 1
  pub counts : Counts answer (state (inner_of old)) (state (inner_of new))
  pub half : keeps
      → Writes at (first_half bytes) answer (state (inner_of old)) (state (inner_of new))

-- what becomes of a call: it is passed on, or it fails by the plan
abbrev pub Passes : {D T : Type 0} → (D → DiskState) → Result T DiskFault → FaultDisk D
    → FaultDisk D
    → Type 0
Passes state result old new = IsPassed state result old new ⊎ IsPlanned result old new

-- what becomes of a write: the same, or it is torn
abbrev pub PassesWrite : {D : Type 0} → Type 0 → (D → DiskState) → ℕ → List ℕ
    → Result (Unit {0}) DiskFault → FaultDisk D → FaultDisk D → Type 0
PassesWrite keeps state at bytes result old new =
    Passes state result old new ⊎ IsTorn keeps state at bytes result old new
