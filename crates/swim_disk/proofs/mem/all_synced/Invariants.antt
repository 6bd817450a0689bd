use Rattle.std.proofs.Common.{◌≡◌, take}
use Rattle.swim_disk.proofs.mem.all_synced.Given as goal

abbrev pub invariant-loop-call : goal.invariant-loop-call
invariant-loop-call l = l.history ≡ take l.call-index l.writes
