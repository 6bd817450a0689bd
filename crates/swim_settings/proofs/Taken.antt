-- Keys that have what they take, one after the other.
use Rattle.std.proofs.Common.{List, [], ◌∷◌, ◌++◌}
use Rattle.std.specs.List.{AllByRecursion}
use Rattle.toml.specs.Data.{Members}
use Rattle.swim_settings.specs.declared.key.Key.{Key}
use Rattle.swim_settings.specs.Says.{IsTaken}

-- all of these keys have what they take
abbrev pub AreTaken : Members → List Key → Type 0
AreTaken table keys = AllByRecursion (λ key. IsTaken key table) keys

pub AreTaken-push : (table : Members) (keys : List Key) (key : Key) → AreTaken table keys → IsTaken key table → AreTaken table (keys ++ key ∷ [])
AreTaken-push table [] key all one = (one, tt)
AreTaken-push table (k ∷ keys) key all one = (all.0, AreTaken-push table keys key all.1 one)
