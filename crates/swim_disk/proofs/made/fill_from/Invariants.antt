use Rattle.std.proofs.Common.{◌≡◌, ◌<◌, ◌≤◌, ◌+◌, ℕ, get_or, length}
use Rattle.swim_disk.specs.Machinery.Made.{IsFilled}
use Rattle.swim_disk.specs.declared.past.Call.TheVariants.{Sync}
use Rattle.swim_disk.proofs.made.fill_from.Given as goal

abbrev pub invariant-loop-place : goal.invariant-loop-place
invariant-loop-place l =
    record {
      size : length l.writes.items ≡ length l.initial.writes.items;
      before : (i : ℕ) → i + 1 ≤ l.from → get_or l.writes.items i Sync ≡ get_or l.initial.writes.items i Sync;
      filled : (i : ℕ) → l.from ≤ i → i < l.place → IsFilled l.byte (get_or l.initial.writes.items i Sync) (get_or l.writes.items i Sync);
      rest : (i : ℕ) → l.place ≤ i → get_or l.writes.items i Sync ≡ get_or l.initial.writes.items i Sync;
    }
