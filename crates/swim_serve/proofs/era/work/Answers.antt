use denote.Param.Send.{sendable}
use Rattle.std.proofs.Common.{◌≡◌, ◌∙◌, ap, refl, subst}
use Rattle.std.proofs.Crossing.{crosses}
use Rattle.swim_shared.proofs.Crosses.{Outbox-send}
use Rattle.swim_shell.specs.Calls.{CallerView, NewCalls}
use Rattle.swim_handle.specs.declared.parts.CallerParts.{CallerParts}
use Rattle.swim_handle.specs.Views.{HasParts, new_caller}
use Rattle.swim_handle.proofs.Crosses.{Handle-send}
use Rattle.swim_serve.specs.Desks.{Tended}
use Rattle.swim_serve.specs.Eras.{handed_by, outgoing_of, owed_first}
use Rattle.swim_serve.specs.Views.{link_of}
use Rattle.swim_serve.specs.Works.{LeftBy, Received, Sent, Ticked}
use Rattle.swim_serve.proofs.Crosses.{RingLink-send}
use Rattle.swim_serve.proofs.Eras.{by_pass}
use Rattle.swim_serve.proofs.era.work.Goals as goal

pub attend-back-requires-send-C : goal.attend-back-requires-send-C
attend-back-requires-send-C g c κs within = search (sendable, Handle-send, Outbox-send) depth 30

pub attend-back-requires-send-O : goal.attend-back-requires-send-O
attend-back-requires-send-O g c κs within = search (sendable, crosses, RingLink-send) depth 60 fits 20000

pub returns-clause-receiver : goal.returns-clause-receiver
returns-clause-receiver g c =
    let took = c.take_apart.ensures.receiver in
    rw (← c.outside.view_is) (by_pass (Received g.I.Inbound.tells g.N.Name.base.limit) g.N.Name.base (λ parts. parts.pass) _ _ _ _ _ _ _ _ _ c.attend-back.ensures.receiver (ap (λ h. h.known) c.in-Some.ensures.receiver) took.0 took.1 took.2)

pub returns-clause-ticker : goal.returns-clause-ticker
returns-clause-ticker g c =
    let took = c.take_apart.ensures.ticker in
    rw (← c.outside.view_is) (by_pass (Ticked g.N.Name.base.limit) g.N.Name.base (λ parts. parts.pass) _ _ _ _ _ _ _ _ _ c.attend-back.ensures.ticker (ap (λ h. h.known) c.in-Some.ensures.ticker) took.0 took.1 took.2)

pub returns-clause-control : goal.returns-clause-control
returns-clause-control g c =
    let took = c.take_apart.ensures.control in
    rw (← c.outside.view_is) (by_pass (Tended g.N.Name.base.limit) g.N.Name.base (λ parts. parts.pass) _ _ _ _ _ _ _ _ _ c.attend-back.ensures.control (ap (λ h. h.known) c.in-Some.ensures.control) took.0 took.1 took.2)

pub returns-clause-sender : goal.returns-clause-sender
returns-clause-sender g c =
    let took = c.take_apart.ensures.sender in
    let crew = c.attend-back.result.crew in
    let last = crew.sender.worker.outgoing in
    let told = c.tell.new.caller.known in
    let begun : NewCalls (new_caller 2) told (owed_first c.outside.inside.owed) = subst (λ p. NewCalls p told (owed_first c.outside.inside.owed)) (ap (λ h. h.known) c.in-Some.ensures.sender) c.in_ok-tell.ensures in
    let sent = Sent g.M.Link.tells g.N.Name.base.limit in
    let parted = λ (known : CallerView) (parts : CallerParts g.row.N.Denot). HasParts g.N.Name.base known parts.pass in
    let link = link_of (g.M.Link.took c.outside.inside.link) (g.M.Link.failures c.outside.inside.link) in
    let did = subst (λ r. LeftBy sent parted (outgoing_of 0 r link) told (handed_by last) crew.sender.parts crew.sender.end) c.in-Some.ensures.all.1 (subst (λ r. LeftBy sent parted (handed_by r) told (handed_by last) crew.sender.parts crew.sender.end) c.new.ensures c.attend-back.ensures.sender) in
    let left = c.take_apart.result in
    let out : outgoing_of last.turns left.ring left.outside.link ≡ handed_by last = ap (λ r. outgoing_of last.turns r left.outside.link) c.take_apart.ensures.ring.0 ∙ ap (λ l. outgoing_of last.turns last.ring l) took.0 in
    rw (← c.outside.view_is) (record {
      first = told;
      told = begun;
      turns = last.turns;
      by = by_pass sent g.N.Name.base (λ parts. parts.pass) _ _ _ told told _ _ _ _ did refl out took.1 took.2;
    })
