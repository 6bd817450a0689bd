use Rattle.std.proofs.Common.{All}
use Rattle.swim_show.specs.Departing.{IsThere}
use Rattle.swim_show.proofs.departing.add_peers.Given as goal

-- what was found so far is there
abbrev pub invariant-loop-index : goal.invariant-loop-index
invariant-loop-index l = record { there : All (IsThere l.image) l.found.items }
