use Rattle.std.proofs.Common.{take}
use Rattle.std.specs.List.{All}
use Rattle.swim_gossip.specs.declared.buffer.Waiting.{Waiting}
use Rattle.swim_record.specs.Blocks.{IsFit}
use Rattle.swim_record.specs.Recording.{say_line}
use Rattle.swim_replay.specs.Recorded.{IsWord}
use Rattle.swim_replay.proofs.recorded.queue_is_fit.Given as goal

-- the updates so far
abbrev pub invariant-loop-waiting : goal.invariant-loop-waiting
invariant-loop-waiting l =
    record {
      lines : All (λ (w : Waiting). IsFit (say_line w)) (take l.waiting-index l.queue);
      counts : All (λ (w : Waiting). IsWord w.count) (take l.waiting-index l.queue);
    }
