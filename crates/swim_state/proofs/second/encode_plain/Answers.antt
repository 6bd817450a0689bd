use Rattle.std.proofs.Common.{◌++◌, ◌∷◌, ◌∙◌, ◌-◌, ap, sym, length, replicate, arith, length-append, List, ℕ}
use Rattle.std.proofs.lemmas.Grind.{flat_map-append}
use Rattle.byteorder.specs.Endian.{big_bytes}
use Rattle.swim_state.specs.Second.{plain}
use Rattle.swim_state.proofs.Bodies.{length-peers, length-plain}
use Rattle.swim_state.proofs.second.encode_plain.Goals as goal

pub append_unused-requires : goal.append_unused-requires
append_unused-requires c =
    let peers = c.as_slice-peers.result.now in
    omega (
      arith,
      length-append {A = ℕ},
      ap length c.append_peers.ensures.text,
      length-peers peers,
      ap length c.append-2.ensures,
      ap length c.append.ensures,
      ap length c.new-out.ensures,
      ap length c.write_u64.ensures,
      c.as_slice-peers.ensures.few,
    )

pub returns-clause-bytes : goal.returns-clause-bytes
unfolding plain
returns-clause-bytes c =
    let peers = c.as_slice-peers.result.now in
    let unused : List ℕ = replicate (8 - length peers) 0 in
    rw (c.append_unused.ensures, c.append_peers.ensures.text, c.append-2.ensures, c.append.ensures, c.new-out.ensures, c.write_u64.ensures, sym c.as_slice-peers.ensures.peers)
    (ap (λ (l : List ℕ). big_bytes 8 c.args.saved.now.ceiling ++ length peers ∷ l) (sym (flat_map-append (big_bytes 6) peers unused)))

pub returns-clause-len : goal.returns-clause-len
returns-clause-len c = ap length (returns-clause-bytes c) ∙ length-plain c.args.saved.now (omega (arith, ap length c.as_slice-peers.ensures.peers, c.as_slice-peers.ensures.few))
