use Rattle.std.proofs.Common.{◌≡◌}
use Rattle.swim_shell.proofs.Trying.{Trying}
use Rattle.swim_net.specs.Udp.{SendsAgain, sends_of}
use Rattle.swim_net.proofs.udp.UdpLinkLink.send.Given as goal

-- the sends so far, after each of which it was tried again
abbrev pub invariant-loop : goal.invariant-loop
invariant-loop g l = record {
  tried : Trying (SendsAgain l.to l.bytes) (sends_of l.initial.self) (sends_of l.self) l.counter;
  same : l.self.failures ≡ l.initial.self.failures;
}
