use Rattle.std.proofs.Common.{rules, ◌<◌, length}
use Rattle.swim_simulate.specs.declared.watched.TheConstants.{ROOM}
use Rattle.swim_simulate.proofs.Watching.{at-last}
use Rattle.swim_simulate.proofs.watched.look_at_last.Goals as goal

pub returns : goal.returns
returns c =
    let few : length c.args.kept.now < ROOM = search rules in
    at-last c.args.law.now c.look_on.new.law c.args.kept.now c.args.before few c.look_on.ensures
