-- What may go to another thread.
use denote.RattleType.{RattleType}
use denote.Ref.{NamedLft}
use denote.Param.Send.{IsSend, IsSync, sendable}
use Rattle.std.proofs.Crossing.{crosses}
use Rattle.http_server.proofs.log.Log.TheSendSync as log
use Rattle.swim_trace.specs.contracts.Trace as Trace
use Rattle.swim_trace.proofs.Crosses.{Trace-send}
use Rattle.swim_net.specs.contracts.udp.ReceiveAnswer as ReceiveAnswer
use Rattle.swim_net.specs.contracts.udp.UdpInbound as UdpInbound
use Rattle.swim_net.specs.contracts.udp.UdpLink as UdpLink

-- what a socket has answered
pub ReceiveAnswer-send : IsSend ReceiveAnswer.the_row
ReceiveAnswer-send = search (sendable, crosses, Trace-send) depth 60 fits 20000

pub answers-send : IsSend (Trace.the_row ReceiveAnswer.the_row)
answers-send = Trace-send ReceiveAnswer.the_row ReceiveAnswer-send

module _ (x : NamedLft) (C : RattleType) (cs : IsSync C) where
  -- what receives datagrams
  pub UdpInbound-send : IsSend (UdpInbound.the_row x C)
  UdpInbound-send = search (sendable, crosses, answers-send, log.the_send) depth 60 fits 20000

  -- what sends datagrams
  pub UdpLink-send : IsSend (UdpLink.the_row x C)
  UdpLink-send = search (sendable, crosses, Trace-send) depth 60 fits 20000
