-- That a disk by its calls keeps the laws.
use Rattle.std.specs.Prelude.{ℕ, ◌≤◌, List, [], ◌∷◌, length, refl}
use Rattle.std.proofs.Common.{arith, sym, subst}
use Rattle.std.proofs.lemmas.List.{take_all}
use Rattle.swim_disk.specs.Machinery.Torn.{overlaid_torn, torn_same}
use Rattle.swim_disk.specs.Replay.{Disk, fresh, step, replay, Leaves, LeftSince, Reaches}
use Rattle.swim_disk.specs.declared.past.Call.{Call}
use Rattle.swim_disk.specs.declared.past.Call.TheVariants.{Write, Sync}

-- a call leaves a disk whose content a crash may leave
stays : (call : Call) (d : Disk) → Leaves d d.content → Leaves (step call d) (step call d).content
stays (Write at bytes) d reached = (d.content, reached, overlaid_torn d.content at bytes.items)
stays Sync d reached = refl

-- so do any calls
all_stay : (d : Disk) (calls : List Call)
    → Leaves d d.content
    → Leaves (replay d calls) (replay d calls).content
all_stay d [] reached = reached
all_stay d (call ∷ calls) reached = all_stay (step call d) calls (stays call d reached)

-- a crash may leave what a read gives
pub content_reached : (start : List ℕ) (calls : List Call)
    → Leaves (replay (fresh start) calls) (replay (fresh start) calls).content
content_reached start calls = all_stay (fresh start) calls refl

-- what a crash may leave now is left since each moment before
pub since_now : (start : List ℕ) (calls : List Call) (t : ℕ) (c : List ℕ) → t ≤ length calls
    → Leaves (replay (fresh start) calls) c → LeftSince start calls t c
since_now start calls t c le left = (
  length calls,
  le,
  omega arith,
  subst (λ (l : List Call). Leaves (replay (fresh start) l) c)
      (sym (take_all (length calls) calls (omega arith))) left,
)

-- what is left since now is what a crash may leave now
pub only_since : (start : List ℕ) (calls : List Call) (c : List ℕ)
    → LeftSince start calls (length calls) c → Leaves (replay (fresh start) calls) c
only_since start calls c left = subst (λ (l : List Call). Leaves (replay (fresh start) l) c)
    (take_all left.0 calls left.1) left.3

-- a crash may leave what was synced, whatever was written since
synced_stays : (synced : List ℕ) (writes : List (ℕ × ℕ)) → Reaches synced writes synced
synced_stays synced [] = refl
synced_stays synced (write ∷ earlier) =
    (synced, synced_stays synced earlier, torn_same write.0 write.1 synced)

-- a crash may leave what was synced
pub synced_reached : (d : Disk) → Leaves d d.synced
synced_reached d = synced_stays d.synced d.writes
