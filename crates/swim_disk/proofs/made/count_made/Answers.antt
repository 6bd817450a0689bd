use Rattle.std.proofs.Common.{ap, arith, List, ℕ, length, take}
use Rattle.swim_disk.specs.Machinery.Made.{made}
use Rattle.swim_disk.proofs.Making.{ends_made, length_once, made_next}
use Rattle.swim_disk.proofs.made.count_made.Goals as goal

pub end-requires : goal.end-requires
end-requires c = omega (arith, ends_made c.args.start.now c.args.writes.now c.loop-call.call-index c.call-item.result c.loop-call-test.true c.call-item.is, c.requires)

pub loop-call-preserved : goal.loop-call-preserved
loop-call-preserved c =
    let next = made_next c.args.start.now c.args.writes.now c.loop-call.call-index c.call-item.result c.loop-call-test.true c.call-item.is in
    omega (
      arith,
      c.max-count.ensures,
      c.end.ensures,
      c.loop-call.invariant,
      length_once (made c.args.start.now (take c.loop-call.call-index c.args.writes.now)) c.call-item.result,
      ap (λ (l : List ℕ). length l) next,
    )
