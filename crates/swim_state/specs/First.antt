-- Version 1: a body is a ceiling and its complement, in 8 bytes each.
use Rattle.std.proofs.Common.{arith}
use Rattle.std.specs.Prelude.{ℕ, ◌-◌, ◌^◌, Bool, ◌==◌, ◌&&◌, nat_le, List, [], ◌++◌}
use Rattle.byteorder.specs.Endian.{big_number, big_bytes}
use Rattle.swim_state.specs.Layout.{Layout, bytes_from}
use Rattle.swim_state.specs.Machinery.Places.{laid_out}
use Rattle.swim_state.specs.declared.layout.TheConstants.{BLOCK}
use Rattle.swim_state.specs.declared.layout.Saved.{Saved}
use Rattle.swim_wire.specs.declared.update.TheConstants.{NUMBER_MAX}

-- the body that holds a ceiling
unfoldable pub body_alone : ℕ → List ℕ
body_alone ceiling = big_bytes 8 ceiling ++ big_bytes 8 (2 ^ 64 - 1 - ceiling)

-- the ceiling that a body has, good or not
unfoldable pub ceiling_in : List ℕ → ℕ
ceiling_in bytes = big_number 8 bytes

-- a ceiling, and no peers
abbrev pub alone : ℕ → Saved
alone ceiling = record { ceiling = ceiling; peers = [] }

-- what a good body says
abbrev pub saved_alone : List ℕ → Saved
saved_alone bytes = alone (ceiling_in bytes)

-- a body is good if its second half is the complement of its
-- first, and the ceiling is no greater than an own number may be
unfoldable pub is_good_alone : List ℕ → Bool
is_good_alone bytes = (big_number 8 (bytes_from bytes 8 8) == 2 ^ 64 - 1 - ceiling_in bytes)
    && nat_le (ceiling_in bytes) NUMBER_MAX

-- bodies at 4096 and 12288, gates at 8192 and 16384
abbrev pub version_1 : Layout
version_1 = laid_out BLOCK 16 is_good_alone saved_alone (omega arith) (omega arith)
