-- Where datagrams come from and go to, and what a socket for them has answered.
use Rattle.std.specs.Prelude.{◌≢◌, ℕ, ◌+◌, ◌*◌, List, [], ◌∷◌, Option, Result, IsNone, SomeIff}
use Rattle.std.specs.Prelude.{◌==◌, Bool, true, false, Ok, Err, if◌then◌else◌}
use Rattle.std.specs.Net.Addr.{ipv4_bits}
use Rattle.std.specs.Net.Socket.{v4_ip, v4_port}
use Rattle.std.specs.IoError.{error_kind}
use Rattle.std.specs.declared.io.Error.{Error}
use Rattle.std.specs.declared.io.ErrorKind.{ErrorKind}
use Rattle.std.specs.declared.io.ErrorKind.TheVariants as kinds
use Rattle.std.specs.declared.net.socket_addr.SocketAddr.{SocketAddr}
use Rattle.std.specs.declared.net.socket_addr.SocketAddr.TheVariants.{V4, V6}
use Rattle.arrayvec.specs.ArrayVec.{ArrayVec}
use Rattle.swim_shell.specs.Inbounds.{Came, Nothing, came_of}
use Rattle.swim_net.specs.declared.udp.ReceiveAnswer.{ReceiveAnswer}
use Rattle.swim_net.specs.declared.udp.Went.{Went}
use Rattle.swim_net.specs.declared.udp.Went.TheVariants as went

-- the endpoint at an address: none where that is of IPv6, or its port is 0
abbrev pub IsEndpointAt : SocketAddr → Option ℕ → Type 0
IsEndpointAt (V4 a) endpoint =
    SomeIff endpoint (v4_port a ≢ 0) (ipv4_bits (v4_ip a) * (256 * 256) + v4_port a)
IsEndpointAt (V6 a) endpoint = IsNone endpoint

-- what an answer says, of which each trace has one entry
abbrev pub came_by : {E : Type 0} → List (Result (Option ℕ) E) → List (ArrayVec ℕ) → Came
came_by (from ∷ _) (bytes ∷ _) = came_of from bytes.items
came_by _ _ = Nothing

-- what these answers say, in order
abbrev pub came_in : List ReceiveAnswer → List Came
came_in [] = []
came_in (a ∷ answers) = came_by a.from a.bytes ∷ came_in answers

-- a receive that ended so brought nothing, and did not fail
abbrev pub brings_nothing : ErrorKind → Bool
brings_nothing kinds.WouldBlock = true
brings_nothing kinds.TimedOut = true
brings_nothing kinds.Interrupted = true
brings_nothing kinds.ConnectionRefused = true
brings_nothing kinds.HostUnreachable = true
brings_nothing kinds.NetworkUnreachable = true
brings_nothing _ = false

-- what became of a datagram whose send failed so
abbrev pub failed_by : ErrorKind → Went
failed_by kinds.Interrupted = went.Interrupted
failed_by kinds.WouldBlock = went.NoRoom
failed_by _ = went.Lost

-- what became of a datagram of so many bytes, by what the socket answered
abbrev pub went_by : Result ℕ Error → ℕ → Went
went_by (Ok sent) length = if sent == length then went.Whole else went.Lost
went_by (Err e) length = failed_by (error_kind e)

-- a send that this became of may be tried again
abbrev pub MayRetry : Went → Type 0
MayRetry went.Interrupted = Unit
MayRetry went.NoRoom = Unit
MayRetry _ = ⊥
