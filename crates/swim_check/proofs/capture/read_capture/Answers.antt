use Rattle.std.proofs.Common.{◌≡◌, ◌++◌, ◌∷◌, ◌∙◌, [], List, ap, subst, sym}
use Rattle.swim_wire.specs.declared.datagram.Datagram.{Datagram}
use Rattle.swim_check.specs.Captures.{Begins}
use Rattle.swim_check.proofs.Reading.{begins-more}
use Rattle.swim_check.proofs.capture.read_capture.Goals as goal

pub loop-rest-preserved : goal.loop-rest-preserved
loop-rest-preserved c =
    let items : c.push_reserved.new.self.items ≡ c.loop-rest.datagrams.items ++ c.in-Ok.datagram ∷ [] =
    c.push_reserved.ensures.items ∙ ap (λ (ds : List Datagram). ds ++ c.in-Ok.datagram ∷ []) c.reserve.ensures.items in
    subst (λ (ds : List Datagram). Begins c.args.text.now ds c.in-Some.more.now) (sym items)
    (begins-more c.loop-rest.datagrams.items c.args.text.now c.loop-rest.rest.now c.in-Some.line.now c.in-Some.more.now c.in-Ok.datagram c.loop-rest.invariant c.in-Some.ensures.parts c.in-Some.ensures.first c.in-Ok.ensures.said)
