use Rattle.std.proofs.Common.{◌∙◌, ap, arith, sym, List, ℕ, get_or, ◌-◌, take}
use Rattle.swim_disk.specs.Machinery.Made.{made}
use Rattle.swim_disk.proofs.Making.{made_before}
use Rattle.swim_disk.proofs.made.byte_made.Goals as goal

pub returns-in-Some : goal.returns-in-Some
returns-in-Some c =
    let more = made_before c.args.start.now c.args.writes.now c.loop-left.left c.index-writes-left.result c.loop-left-test.true c.loop-left.invariant.1 c.index-writes-left.is in
    sym (c.loop-left.invariant.0 ∙ ap (λ (l : List ℕ). get_or l c.args.place 0) more ∙ c.in-Some.ensures.some (made c.args.start.now (take (c.loop-left.left - 1) c.args.writes.now)))

pub loop-left-preserved : goal.loop-left-preserved
loop-left-preserved c =
    let more = made_before c.args.start.now c.args.writes.now c.loop-left.left c.index-writes-left.result c.loop-left-test.true c.loop-left.invariant.1 c.index-writes-left.is in (
      c.loop-left.invariant.0 ∙ ap (λ (l : List ℕ). get_or l c.args.place 0) more ∙ c.in_default.ensures.none (made c.args.start.now (take (c.loop-left.left - 1) c.args.writes.now)),
      omega (arith, c.loop-left.invariant.1),
    )
