use Rattle.std.proofs.Common.{◌≡◌, length, take, drop}
use Rattle.swim_wire.specs.Reading.{updates_of}
use Rattle.swim_wire.proofs.reading.read_over.Given as goal

abbrev pub invariant-loop-i : goal.invariant-loop-i
invariant-loop-i l = record {
  read : take l.i l.updates ≡ updates_of l.i (drop 32 l.bytes);
  long : length l.updates ≡ length l.fn.updates;
}
