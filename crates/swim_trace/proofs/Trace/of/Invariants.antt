use Rattle.std.proofs.Common.{◌≡◌, take}
use Rattle.swim_trace.proofs.Trace.of.Given as goal

abbrev pub invariant-loop-item : goal.invariant-loop-item
invariant-loop-item g l = l.trace ≡ take l.item-index l.items
