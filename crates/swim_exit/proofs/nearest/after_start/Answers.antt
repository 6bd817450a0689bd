use Rattle.std.proofs.Common.{rules}
use Rattle.swim_exit.proofs.Starts.{start_cons}
use Rattle.swim_exit.proofs.nearest.after_start.Goals as goal

pub loop-preserved : goal.loop-preserved
loop-preserved c =
    let s = c.in-Some-Some in
    start_cons s.x.now s.y.now c.args.one.now c.args.other.now c.loop.first.now c.loop.second.now s.rest.now s.others.now c.loop.invariant (search rules) (search rules) (search rules)
