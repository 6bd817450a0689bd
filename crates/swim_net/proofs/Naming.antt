-- The address of an endpoint has that endpoint.
use Rattle.std.proofs.Common.{◌≡◌, ◌≢◌, ℕ, ◌+◌, ◌*◌, ◌/◌, ◌%◌, ◌^◌, ◌<◌, ap, ◌∙◌, arith}
use Rattle.std.proofs.Math.Nat.{div-add-mod}
use Rattle.std.proofs.lemmas.Nat.{from_be_bytes-to_be_bytes_4}
use Rattle.std.specs.Int.{w32, from_be_bytes}
use Rattle.std.specs.Net.Addr.{IsIpv4OfBits, ipv4_bits}
use Rattle.std.specs.declared.net.ipv4_addr.Ipv4Addr.{Ipv4Addr}

bits_back : (ip : Ipv4Addr) (bits : ℕ) → bits < 2 ^ 32 → IsIpv4OfBits ip bits → ipv4_bits ip ≡ bits
unfolding IsIpv4OfBits ipv4_bits
bits_back ip bits h e = ap (from_be_bytes w32) e ∙ from_be_bytes-to_be_bytes_4 bits h

pub endpoint_back : (endpoint bits port own : ℕ) (ip address : Ipv4Addr) → bits ≡ endpoint / 65536 → bits < 2 ^ 32 → IsIpv4OfBits ip bits → address ≡ ip → port ≡ endpoint % 65536 → 0 < port → own ≡ port → (own ≢ 0) × (endpoint ≡ ipv4_bits address * 65536 + own)
endpoint_back endpoint bits port own ip address b h i a p z o =
    let back : ipv4_bits address ≡ bits = ap ipv4_bits a ∙ bits_back ip bits h i in
    let none : own ≢ 0 = λ e. omega (arith, o, z, e) in
    (none, omega (arith, back, b, p, o, div-add-mod endpoint 65536))
