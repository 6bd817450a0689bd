use Rattle.std.proofs.Common.{rules}
use Rattle.swim_state.specs.Held.{Covers, Through}
use Rattle.swim_state.specs.Store.{disk_in}
use Rattle.swim_state.proofs.Moments.{since_from}
use Rattle.swim_state.proofs.Recovering.{only_two}
use Rattle.swim_state.proofs.recovery.recover.Goals as goal

pub returns-in-Ok-clause-since : goal.returns-in-Ok-clause-since
returns-in-Ok-clause-since g c = λ keeps b held.
    let through : Through (Covers c.args.owner b) (g.D.Disk.state c.args.disk) (g.D.Disk.state (disk_in c.first_save.result)) = search rules in
    since_from (Covers c.args.owner b) _ _ through held

pub returns-in-Err-clause-since : goal.returns-in-Err-clause-since
returns-in-Err-clause-since g c = λ keeps b held.
    let through : Through (Covers c.args.owner b) (g.D.Disk.state c.args.disk) (g.D.Disk.state c.inspect.new.disk) = search rules in
    since_from (Covers c.args.owner b) _ _ through held

pub returns-in-Err-clause-from_held : goal.returns-in-Err-clause-from_held
returns-in-Err-clause-from_held g c = λ keeps b held.
    let disk = g.D.Disk.state c.args.disk in
    only_two c.args.owner disk.content c.in-Err.fault (c.in-Err.ensures.fault keeps) (held disk.content disk.reads).sound
