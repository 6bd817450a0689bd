use Rattle.std.proofs.Common.{arith}
use Rattle.std.proofs.lemmas.List.Elements.{All-map}
use Rattle.swim_member.specs.declared.state.Relay.{Relay}
use Rattle.swim_record.specs.Blocks.{IsFit}
use Rattle.swim_record.specs.Recording.{relay_line}
use Rattle.swim_replay.specs.Recorded.{IsWord}
use Rattle.swim_replay.proofs.Ranges.{all-one_more, all-walked}
use Rattle.swim_replay.proofs.recorded.relays_are_fit.Goals as goal

pub loop-relay-preserved : goal.loop-relay-preserved
loop-relay-preserved c = record {
  lines = all-one_more (λ (r : Relay). IsFit (relay_line r)) c.args.relays.now c.loop-relay.relay-index c.relay-item.result (omega arith) c.relay-item.is c.loop-relay.invariant.lines c.relay_is_fit.ensures.line;
  words = all-one_more (λ (r : Relay). IsWord r.seq × IsWord r.asked) c.args.relays.now c.loop-relay.relay-index c.relay-item.result (omega arith) c.relay-item.is c.loop-relay.invariant.words c.relay_is_fit.ensures.words;
}

pub returns-clause-lines : goal.returns-clause-lines
returns-clause-lines c = All-map IsFit relay_line c.args.relays.now (all-walked (λ (r : Relay). IsFit (relay_line r)) c.args.relays.now c.loop-relay.relay-index (omega arith) c.loop-relay.invariant.lines)

pub returns-clause-words : goal.returns-clause-words
returns-clause-words c = all-walked (λ (r : Relay). IsWord r.seq × IsWord r.asked) c.args.relays.now c.loop-relay.relay-index (omega arith) c.loop-relay.invariant.words
