use Rattle.std.proofs.Common.{rules, ◌≡◌, ◌∙◌, subst, sym}
use Rattle.std.specs.IoError.{error_kind}
use Rattle.std.specs.declared.io.ErrorKind.TheVariants.{WouldBlock}
use Rattle.swim_shell.specs.Inbounds.{came_of}
use Rattle.swim_net.specs.Udp.{HadNothing, IsBrought}
use Rattle.swim_net.proofs.Answering.{brings_first, brings_second}
use Rattle.swim_net.proofs.udp.UdpInboundInbound.receive.Goals as goal

pub returns-in-Err-clause-brought : goal.returns-in-Err-clause-brought
returns-in-Err-clause-brought g c =
    let first = c.receive in
    let last = c.receive-received in
    let kind : error_kind c.in-Err.error ≡ WouldBlock = search rules in
    let none = subst (λ r. HadNothing (first.new.buffer, r)) (sym c.in-Err.is) kind in
    brings_second _ _ _ _ _ first.ensures.told none ((last.new.buffer, last.result), c.answer.ensures.socket ∙ last.ensures.told, c.answer.ensures.brought)

pub returns-in_default-clause-brought : goal.returns-in_default-clause-brought
returns-in_default-clause-brought g c =
    let first = c.receive in
    let answer = c.answer-in_default in
    let brought : IsBrought (first.new.buffer, first.result) (came_of answer.result answer.new.into.items) = search rules in
    brings_first _ _ _ ((first.new.buffer, first.result), answer.ensures.socket ∙ first.ensures.told, brought)
