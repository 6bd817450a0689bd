use Rattle.std.proofs.Common.{arith}
use Rattle.swim_gossip.proofs.Places.{without-fewer}
use Rattle.swim_tests.proofs.gossip.begin.Goals as goal

pub offer-requires-clause-room : goal.offer-requires-clause-room
offer-requires-clause-room g c = grind (arith, without-fewer c.args.update.who c.args.buffer.now.queue)
