use Rattle.std.proofs.Common.{◌≡◌, ◌∙◌, refl, ap, List, [], ◌∷◌, arith}
use Rattle.swim_wire.specs.declared.rules.Rules.{Rules}
use Rattle.swim_wire.specs.declared.update.Update.{Update}
use Rattle.swim_wire.specs.declared.datagram.Kind.TheVariants.{Page}
use Rattle.swim_member.specs.State.{State}
use Rattle.swim_member.specs.declared.answer.Out.{Out}
use Rattle.swim_member.specs.Send.{datagram}
use Rattle.swim_member.specs.Join.{page_after}
use Rattle.swim_member.proofs.Lows.{fit-open}
use Rattle.swim_member.proofs.Adding.{adds-one, adds-as}
use Rattle.swim_member.proofs.member.Member.on_join.Goals as goal

abbrev out : (c : goal.After-send) → Out
out c = record { to = c.args.join.now.sender; datagram = record { version = c.rules_of.result; kind = Page; group = c.self.inside.settings.group; seq = c.args.join.now.seq; sender = c.self.inside.settings.me; subject = c.args.join.now.subject; updates = c.page_after-updates.result } }

same : (c : goal.After-send) → out c ≡ record { to = c.args.join.now.sender; datagram = datagram c.args.self.now Page c.args.join.now.seq c.args.join.now.subject (page_after c.args.self.now c.args.join.now.subject) }
same c =
    ap (λ (v : Rules). record (out c) { datagram = record (out c).datagram { version = v } }) c.rules_of.ensures
    ∙ ap (λ (s : State). record { to = c.args.join.now.sender; datagram = datagram s Page c.args.join.now.seq c.args.join.now.subject c.page_after-updates.result.items }) c.self.view_is
    ∙ ap (λ (us : List Update). record { to = c.args.join.now.sender; datagram = datagram c.args.self.now Page c.args.join.now.seq c.args.join.now.subject us }) c.page_after-updates.ensures.page

pub returns : goal.returns
returns c =
    adds-as _ _ _ _ _ _ _ _ _ _ (ap (λ (o : Out). o ∷ []) (same c)) (omega arith) refl
    (adds-one c.args.self.now c.args.self.now c.args.answer.now c.send.new.self (out c) c.send.ensures.outs c.send.ensures.notes c.send.ensures.page refl refl
    (fit-open c.args.self.now.settings.me c.args.self.now.number (out c) refl c.page_after-updates.ensures.said))
