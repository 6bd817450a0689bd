use Rattle.std.proofs.Common.{◌≡◌, ◌<◌, ◌%◌, map, take, All, true}
use Rattle.swim_state.specs.Second.{ascend}
use Rattle.swim_member.specs.Member.{eligible, row_name}
use Rattle.swim_node.proofs.peers.known_peers.Given as goal

-- the peers so far are the first so many that are Alive or Suspect, and ascend
abbrev pub invariant-loop-number : goal.invariant-loop-number
invariant-loop-number l = record {
  taken : l.peers ≡ map row_name (take l.number (eligible l.member));
  ports : All (λ who. 0 < who % 65536) l.peers;
  up : ascend 0 l.peers ≡ true;
}
