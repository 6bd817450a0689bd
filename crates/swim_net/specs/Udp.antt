-- What sockets for datagrams were asked, and what they answered.
use Rattle.std.specs.Prelude.{◌≡◌, ℕ, List, [], ◌∷◌, ◌++◌, All, length, take, Bool, true, false}
use Rattle.std.specs.Prelude.{Some, None, Result, Ok, Err}
use Rattle.std.specs.IoError.{error_kind}
use Rattle.std.specs.declared.io.Error.{Error}
use Rattle.std.specs.declared.io.ErrorKind.TheVariants as kinds
use Rattle.std.specs.declared.net.socket_addr.SocketAddr.{SocketAddr}
use Rattle.swim_shell.specs.Inbounds.{Came, Received, Nothing, Failed}
use Rattle.swim_net.specs.Datagrams.{IsEndpointAt, MayRetry, brings_nothing, went_by}
use Rattle.swim_net.specs.declared.socket.OutgoingDatagram.{OutgoingDatagram}
use Rattle.swim_net.specs.declared.udp.UdpInbound.{UdpInbound}
use Rattle.swim_net.specs.declared.udp.UdpLink.{UdpLink}
use Rattle.swim_net.specs.declared.udp.Went.TheVariants as went

-- what the buffer held after a receive, and what the socket answered
abbrev pub Receive : Type 0
Receive = List ℕ × Result (ℕ × SocketAddr) Error

-- what was to go out by a send, and what the socket answered
abbrev pub Send : Type 0
Send = OutgoingDatagram × Result ℕ Error

abbrev pub receives_of : {C : Type 0} → UdpInbound C → List Receive
receives_of inbound = inbound.socket.answers.items

abbrev pub sends_of : {C : Type 0} → UdpLink C → List Send
sends_of link = link.socket.answers.items

-- this came by a receive: a datagram is whole, and from the endpoint at the sender's address
abbrev pub IsBrought : Receive → Came → Type 0
IsBrought (bytes, Ok got) (Received from came) =
    IsEndpointAt got.1 (Some from) × (came ≡ take got.0 bytes)
IsBrought (bytes, Ok got) Nothing = IsEndpointAt got.1 None
IsBrought (bytes, Ok got) Failed = ⊥
IsBrought (bytes, Err e) (Received from came) = ⊥
IsBrought (bytes, Err e) Nothing = brings_nothing (error_kind e) ≡ true
IsBrought (bytes, Err e) Failed = brings_nothing (error_kind e) ≡ false

-- nothing had come yet
abbrev pub HadNothing : Receive → Type 0
HadNothing (bytes, Ok got) = ⊥
HadNothing (bytes, Err e) = error_kind e ≡ kinds.WouldBlock

-- one more receive, by which this came
abbrev pub BringsOne : List Receive → List Receive → Came → Type 0
BringsOne old new came = (receive : Receive) × (new ≡ old ++ receive ∷ []) × IsBrought receive came

-- one more receive, by which this came, after those that found nothing
pub record BringsLast (old new : List Receive) (came : Came) : Type 0 where
  pub before : List Receive
  pub none : All HadNothing before
  pub last : BringsOne (old ++ before) new came

-- these bytes were to go to this endpoint
abbrev pub IsSendOf : ℕ → List ℕ → Send → Type 0
IsSendOf to bytes send = IsEndpointAt send.0.to (Some to) × (send.0.bytes ≡ bytes)

-- the datagram may be sent again after this send of it
abbrev pub SendsAgain : ℕ → List ℕ → Send → Type 0
SendsAgain to bytes send = IsSendOf to bytes send × MayRetry (went_by send.1 (length bytes))

-- it went out whole by this send of it, or was lost
abbrev pub EndsAs : ℕ → List ℕ → (is_whole : Bool) → Send → Type 0
EndsAs to bytes true send = IsSendOf to bytes send × (went_by send.1 (length bytes) ≡ went.Whole)
EndsAs to bytes false send = IsSendOf to bytes send × (went_by send.1 (length bytes) ≡ went.Lost)
