use Rattle.std.proofs.Common.{rules, ◌≡◌, ◌∙◌, ap, subst, sym}
use Rattle.swim_wire.specs.Decoding.{decoded}
use Rattle.swim_words.specs.Words.{SaysEndpoint}
use Rattle.swim_check.proofs.line.read_line.Goals as goal

pub returns-clause-said : goal.returns-clause-said
returns-clause-said c =
    let same : c.in-Some-read_endpoint.endpoint ≡ c.in-Ok.datagram.sender = search rules in
    record {
      sender = c.in-Some.sender.now;
      word = c.in-Some.word.now;
      bytes = c.in_ok-bytes.bytes.items;
      line_is = c.in-Some.ensures.parts;
      sender_is = subst (SaysEndpoint c.in-Some.sender.now) same c.in-Some-read_endpoint.ensures.endpoint;
      word_is = c.in_ok-bytes.ensures.said;
      read = ap decoded (sym c.deref.ensures.value) ∙ (sym c.decode.ensures.read ∙ c.in-Ok.is);
    }
