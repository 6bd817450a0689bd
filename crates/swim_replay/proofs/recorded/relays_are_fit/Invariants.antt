use Rattle.std.proofs.Common.{take}
use Rattle.std.specs.List.{All}
use Rattle.swim_member.specs.declared.state.Relay.{Relay}
use Rattle.swim_record.specs.Blocks.{IsFit}
use Rattle.swim_record.specs.Recording.{relay_line}
use Rattle.swim_replay.specs.Recorded.{IsWord}
use Rattle.swim_replay.proofs.recorded.relays_are_fit.Given as goal

-- the pings so far
abbrev pub invariant-loop-relay : goal.invariant-loop-relay
invariant-loop-relay l =
    record {
      lines : All (λ (r : Relay). IsFit (relay_line r)) (take l.relay-index l.relays);
      words : All (λ (r : Relay). IsWord r.seq × IsWord r.asked) (take l.relay-index l.relays);
    }
