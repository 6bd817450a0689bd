use Rattle.std.proofs.Common.{refl}
use Rattle.swim_net.proofs.udp.UdpLinkLink.TheImpl.Goals as goal

-- it does not tell what it took
pub send-tells : goal.send-tells
send-tells g c = record { name = refl; failures = c.ensures.failures; took = λ told. absurd told }
