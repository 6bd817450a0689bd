use Rattle.swim_disk.proofs.Making.{not_there}
use Rattle.swim_disk.proofs.made.byte_by.Goals as goal
use Rattle.swim_disk.proofs.made.byte_by.Goals.{else-at-place-via-then-at-place+else-place-at, else-at-place-via-else-at-place}
use Rattle.std.proofs.Common.{inl, inr, arith}

pub returns-else-at-place-clause-none : goal.returns-else-at-place-clause-none
returns-else-at-place-clause-none c start =
    elim c.else-at-place.branch [
      | else-at-place-via-then-at-place+else-place-at w ↦ not_there c.args.call.now c.in-Write.at c.in-Write.bytes c.args.place start c.in-Write.is (inr (omega (arith, w.if-at-place.true, w.if-place-at.false)))
      | else-at-place-via-else-at-place w ↦ not_there c.args.call.now c.in-Write.at c.in-Write.bytes c.args.place start c.in-Write.is (inl (omega (arith, w.if-at-place.false)))
    ]
