use Rattle.swim_net.proofs.Naming.{endpoint_back}
use Rattle.swim_net.proofs.udp.address_of.Goals as goal

-- its octets and its port are those of the endpoint
pub returns : goal.returns
returns c = endpoint_back c.args.endpoint c.address.result c.port.result _ c.from_bits-address.result _ c.address.ensures c.address.type_inv c.from_bits-address.ensures c.new.ensures.ip c.port.ensures.value c.port.ensures.positive c.new.ensures.port
