use Rattle.std.proofs.Common.{◌<◌, take}
use Rattle.swim_wire.specs.Spelling.{Spells}
use Rattle.swim_bench.proofs.codec.encode_turns.Given as goal

abbrev pub invariant-loop : goal.invariant-loop
invariant-loop l = 0 < l.written → Spells (take l.written l.out) l.datagram
