-- Worked examples, by computation.
use Rattle.std.proofs.Common.{◌≡◌, refl, Some, None}
use Rattle.swim_node.specs.Saving.{ceiling_asked}

-- number 2 is wanted
block_of_one : ceiling_asked 1 (Some 2) ≡ Some 2
block_of_one = refl

block_of_four : ceiling_asked 4 (Some 2) ≡ Some 5
block_of_four = refl

-- no block goes beyond the last number
last_number : ceiling_asked 4 (Some 4611686018427387904) ≡ Some 4611686018427387904
last_number = refl

last_block : ceiling_asked 1024 (Some 4611686018427386881) ≡ Some 4611686018427387904
last_block = refl

nothing_wanted : ceiling_asked 4 None ≡ None
nothing_wanted = refl
