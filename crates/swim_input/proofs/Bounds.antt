-- A list of which no more is taken than there may be is taken whole.
use Rattle.std.proofs.Common.{◌≡◌, ◌≤◌, ℕ, ◌+◌, List, length, arith}
use Rattle.std.specs.Prelude.{take}
use Rattle.std.proofs.lemmas.List.{length-take, take_all}

few : (most : ℕ) (all : List ℕ) → length (take (most + 1) all) ≤ most → length all ≤ most + 1
few most all short = grind (arith, length-take (most + 1) all, short)

pub all_taken : (most : ℕ) (all : List ℕ) → length (take (most + 1) all) ≤ most → take (most + 1) all ≡ all
all_taken most all short = take_all (most + 1) all (few most all short)
