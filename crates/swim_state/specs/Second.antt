-- Version 2: a body is a ceiling, a count of peers and eight places for
-- endpoints, 57 bytes, and then the bitwise complement of these.
use Rattle.std.proofs.Common.{arith}
use Rattle.std.specs.Prelude.{ℕ, ◌-◌, ◌%◌, ◌≤◌, zero, suc, Bool, true, IsTrue, ◌&&◌, nat_le, nat_lt}
use Rattle.std.specs.Prelude.{List, [], ◌∷◌, ◌++◌, length, map, drop, replicate, slice_index}
use Rattle.std.specs.List.{flat_map}
use Rattle.std.specs.Str.{bytes_eq}
use Rattle.byteorder.specs.Endian.{big_number, big_bytes}
use Rattle.swim_state.specs.Layout.{Layout}
use Rattle.swim_state.specs.Machinery.Places.{laid_out}
use Rattle.swim_state.specs.declared.layout.Saved.{Saved}
use Rattle.swim_state.specs.declared.peers.TheConstants.{PEERS_MAX}
use Rattle.swim_wire.specs.declared.update.TheConstants.{NUMBER_MAX}

-- eight endpoints: the peers, and zero for each place that isn't used
abbrev pub places : List ℕ → List ℕ
places peers = peers ++ replicate (PEERS_MAX - length peers) 0

-- the ceiling in 8 bytes, the count of peers in one, and eight endpoints of 6 bytes
unfoldable pub plain : Saved → List ℕ
plain saved =
    big_bytes 8 saved.ceiling ++ length saved.peers ∷ flat_map (big_bytes 6) (places saved.peers)

-- each byte with its bits the other way
abbrev pub complement : List ℕ → List ℕ
complement bytes = map (λ byte. 255 - byte) bytes

-- the one body that says this
unfoldable pub body : Saved → List ℕ
body saved = plain saved ++ complement (plain saved)

-- the first n endpoints in these bytes
abbrev pub endpoints : ℕ → List ℕ → List ℕ
endpoints zero bytes = []
endpoints (suc n) bytes = big_number 6 bytes ∷ endpoints n (drop 6 bytes)

-- what a body says, good or not
unfoldable pub saved_in : List ℕ → Saved
saved_in bytes =
    record { ceiling = big_number 8 bytes; peers = endpoints (slice_index bytes 8) (drop 9 bytes) }

-- the endpoints ascend strictly, all above this number, and none has port 0
abbrev pub ascend : ℕ → List ℕ → Bool
ascend low [] = true
ascend low (who ∷ more) = (nat_lt low who && nat_lt 0 (who % 65536)) && ascend who more

-- at most eight endpoints, ascending strictly, none with port 0
abbrev pub ArePeers : List ℕ → Type 0
ArePeers peers = (length peers ≤ PEERS_MAX) × IsTrue (ascend 0 peers)

-- a ceiling no greater than an own number may be, with peers as they may be
abbrev pub may_be_saved : Saved → Bool
may_be_saved saved = (nat_le saved.ceiling NUMBER_MAX && nat_le (length saved.peers) PEERS_MAX)
    && ascend 0 saved.peers

-- A body is good if what it says may stand, and if it is just the body that
-- says this: then its complement agrees, and places that aren't used are zero.
unfoldable pub is_good : List ℕ → Bool
is_good bytes = may_be_saved (saved_in bytes) && bytes_eq bytes (body (saved_in bytes))

-- bodies at 20480 and 28672, gates at 24576 and 32768: past the parts of version 1
abbrev pub version_2 : Layout
version_2 = laid_out 20480 114 is_good saved_in (omega arith) (omega arith)
