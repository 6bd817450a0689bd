use Rattle.std.proofs.Common.{arith}
use Rattle.swim_replay.proofs.Ranges.{start-fit}
use Rattle.swim_replay.proofs.recorded.start_is_fit.Goals as goal

pub returns : goal.returns
returns c = start-fit c.args.start (omega arith) (omega arith) (omega arith) (omega arith) (omega arith) c.past_is_fit.ensures
