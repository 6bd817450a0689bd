use Rattle.std.proofs.Common.{◌≡◌, ◌≤◌, take}
use Rattle.swim_script.proofs.bytes.cut.Given as goal

abbrev pub invariant-loop-byte : goal.invariant-loop-byte
invariant-loop-byte l = (l.cut.items ≡ take l.byte-index l.bytes) × (l.byte-index ≤ 513)
