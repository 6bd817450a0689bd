use Rattle.std.proofs.Common.{◌≡◌, ◌≤◌, IsOk, IsErr}
use Rattle.swim_wire.specs.Decoding.{decoded}
use Rattle.swim_bench.proofs.codec.swim_bench_decode.Given as goal

abbrev pub invariant-loop : goal.invariant-loop
invariant-loop l =
    (l.good ≤ l.counter) × (IsOk (decoded l.text) → l.good ≡ l.counter) × (IsErr (decoded l.text) → l.good ≡ 0)
