use Rattle.std.proofs.Common.{arith}
use Rattle.std.proofs.lemmas.List.Elements.{All-map}
use Rattle.swim_gossip.specs.declared.buffer.Waiting.{Waiting}
use Rattle.swim_record.specs.Blocks.{IsFit}
use Rattle.swim_record.specs.Recording.{say_line}
use Rattle.swim_replay.specs.Recorded.{IsWord}
use Rattle.swim_replay.proofs.Ranges.{all-one_more, all-walked}
use Rattle.swim_replay.proofs.recorded.queue_is_fit.Goals as goal

pub loop-waiting-preserved : goal.loop-waiting-preserved
loop-waiting-preserved c = record {
  lines = all-one_more (λ (w : Waiting). IsFit (say_line w)) c.args.queue.now c.loop-waiting.waiting-index c.waiting-item.result (omega arith) c.waiting-item.is c.loop-waiting.invariant.lines c.waiting_is_fit.ensures.line;
  counts = all-one_more (λ (w : Waiting). IsWord w.count) c.args.queue.now c.loop-waiting.waiting-index c.waiting-item.result (omega arith) c.waiting-item.is c.loop-waiting.invariant.counts c.waiting_is_fit.ensures.count;
}

pub returns-clause-lines : goal.returns-clause-lines
returns-clause-lines c = All-map IsFit say_line c.args.queue.now (all-walked (λ (w : Waiting). IsFit (say_line w)) c.args.queue.now c.loop-waiting.waiting-index (omega arith) c.loop-waiting.invariant.lines)

pub returns-clause-counts : goal.returns-clause-counts
returns-clause-counts c = all-walked (λ (w : Waiting). IsWord w.count) c.args.queue.now c.loop-waiting.waiting-index (omega arith) c.loop-waiting.invariant.counts
