use Rattle.std.proofs.Common.{◌+◌, ◌<◌, length, arith}
use Rattle.swim_node.specs.History.{calls_by}
use Rattle.swim_node.proofs.Lists.{few_calls_by}
use Rattle.swim_replay.proofs.Entering.{only_memory}
use Rattle.swim_replay.proofs.playing.enter.Goals as goal

pub returns-in-Err-clause-back : goal.returns-in-Err-clause-back
returns-in-Err-clause-back c e met event next room limit =
    let era = c.args.era.now in
    let caller = c.args.met.now.caller in
    let small : length (calls_by caller era.entries) + 1 < 4294967296 = let few = few_calls_by caller era.entries in omega arith in
    c.from.ensures (only_memory era.base era.entries _ c.in-Err.fault (c.next_turn.ensures small) room c.in-Err.ensures.refused)
