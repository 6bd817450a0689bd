use Rattle.std.proofs.Common.{arith}
use Rattle.swim_state.specs.File.{version_in}
use Rattle.swim_state.proofs.Marks.{long_in}
use Rattle.swim_state.proofs.Recovering.{too_short}
use Rattle.swim_state.proofs.recovery.inspect.Goals as goal

pub returns-then-size-clause-fault : goal.returns-then-size-clause-fault
returns-then-size-clause-fault g c = λ keeps differs.
    let content = (g.D.Disk.state c.args.disk.now).content in
    too_short c.args.owner content (omega (arith, c.in_ok-size.ensures.len keeps, c.if-size.true, c.size.ensures, long_in (version_in content)))
