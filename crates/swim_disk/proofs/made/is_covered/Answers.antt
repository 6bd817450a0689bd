use Rattle.swim_disk.proofs.Making.{left_out}
use Rattle.swim_disk.proofs.made.is_covered.Goals as goal

pub returns-then-covers : goal.returns-then-covers
returns-then-covers c = λ _.
    left_out c.args.call.now c.other-item.result c.args.later.now c.loop-other.other-index c.loop-other-test.true c.other-item.is (c.covers.ensures c.if-covers.true)
