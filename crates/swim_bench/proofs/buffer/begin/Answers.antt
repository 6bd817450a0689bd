use Rattle.std.proofs.Common.{arith}
use Rattle.swim_gossip.proofs.Places.{without-fewer}
use Rattle.swim_bench.proofs.buffer.begin.Goals as goal

pub offer-requires-clause-room : goal.offer-requires-clause-room
offer-requires-clause-room c =
    grind (arith, without-fewer c.waiting_member.result c.args.buffer.now.queue, c.if-len-lt-WAITING_MAX.true, c.len.ensures.len)
