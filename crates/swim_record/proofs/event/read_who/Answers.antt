use Rattle.swim_words.specs.Words.{endpoint_text}
use Rattle.swim_record.proofs.Events.{who_read}
use Rattle.swim_record.proofs.event.read_who.Goals as goal

pub returns : goal.returns
returns c who is same =
    who_read c.read_endpoint.result c.in_ok-rest.rest.now c.read_endpoint.ensures.endpoint c.read_endpoint.ensures.none who is (c.in_ok-rest.ensures (endpoint_text who) same)
