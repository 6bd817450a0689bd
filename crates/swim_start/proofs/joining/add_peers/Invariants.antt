use Rattle.std.proofs.Common.{◌≡◌, ◌+◌, ◌≤◌, ◌++◌, List, ℕ, length, take}
use Rattle.swim_start.specs.Starting.{once, others}
use Rattle.swim_start.proofs.joining.add_peers.Given as goal

-- what was added of the first so many peers
pub record Kept (me : ℕ) (begun peers more : List ℕ) (count : ℕ) : Type 0 where
  pub added : (told : List ℕ) → begun ≡ once (others me told)
      → peers ≡ once (others me (told ++ take count more))
  pub few : length peers ≤ length begun + count

abbrev pub invariant-loop-peer : goal.invariant-loop-peer
invariant-loop-peer l = Kept l.me l.fn.peers.items l.peers.items l.more l.peer-index
