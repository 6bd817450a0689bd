use Rattle.std.proofs.Common.{◌≡◌, false, take, map}
use Rattle.std.specs.List.{list_any}
use Rattle.swim_library.specs.Seeking.{names_nobody}
use Rattle.swim_library.specs.Shapes.{number_of_endpoint}
use Rattle.swim_library.proofs.seeking.named_by.Given as goal

abbrev pub invariant-loop-seed : goal.invariant-loop-seed
invariant-loop-seed l =
    (l.peers.items ≡ map number_of_endpoint (take l.seed-index l.seeds))
    × (list_any names_nobody (take l.seed-index l.seeds) ≡ false)
