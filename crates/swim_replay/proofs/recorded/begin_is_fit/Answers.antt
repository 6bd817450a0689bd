use Rattle.std.proofs.Common.{subst}
use Rattle.swim_record.specs.Blocks.{IsFit}
use Rattle.swim_replay.proofs.recorded.begin_is_fit.Goals as goal

pub returns : goal.returns
returns c = subst IsFit c.start_of-start.ensures c.start_is_fit.ensures
