use Rattle.std.proofs.Common.{◌≡◌, ◌∙◌, true, refl, ap, List, [], ◌∷◌, ◌++◌, Some, arith}
use Rattle.swim_wire.specs.declared.rules.Rules.{Rules}
use Rattle.swim_wire.specs.declared.update.Update.{Update}
use Rattle.swim_wire.specs.declared.datagram.Kind.TheVariants.{Join}
use Rattle.swim_member.specs.contracts.member.Member.{the_view}
use Rattle.swim_member.specs.declared.answer.Out.{Out}
use Rattle.swim_member.specs.State.{State, SequenceTaken}
use Rattle.swim_member.specs.OwnNumber.{own}
use Rattle.swim_member.specs.Send.{datagram}
use Rattle.swim_member.specs.Fit.{may_say}
use Rattle.swim_member.specs.Machinery.Steps.{apply}
use Rattle.swim_member.proofs.Lows.{fit-open, and-both}
use Rattle.swim_member.proofs.Adding.{adds-one, adds-as}
use Rattle.swim_member.proofs.member.Member.join_to.Goals as goal

abbrev out : (c : goal.After-send) → Out
out c = record { to = c.args.peer; datagram = record { version = c.rules_of.result; kind = Join; group = c.self.inside.settings.group; seq = c.take_seq-seq.result; sender = c.self.inside.settings.me; subject = c.args.cursor; updates = c.push.new.self } }

state : (c : goal.After-send) → the_view c.self.inside ≡ apply SequenceTaken c.args.self.now
state c = c.self.view_is ∙ c.take_seq-seq.ensures.state

updates : (c : goal.After-send) → c.push.new.self.items ≡ own c.args.self.now ∷ []
updates c =
    c.push.ensures.items ∙ ap (λ (us : List Update). us ++ c.own.result ∷ []) c.new-updates.ensures
    ∙ ap (λ (u : Update). u ∷ []) (c.own.ensures.own ∙ ap own c.take_seq-seq.ensures.state)

same : (c : goal.After-send) → out c ≡ record { to = c.args.peer; datagram = datagram c.args.self.now Join c.args.self.now.seq c.args.cursor (own c.args.self.now ∷ []) }
same c =
    ap (λ (v : Rules). record (out c) { datagram = record (out c).datagram { version = v } }) c.rules_of.ensures
    ∙ ap (λ (s : State). record { to = c.args.peer; datagram = datagram s Join c.take_seq-seq.result c.args.cursor c.push.new.self.items }) (state c)
    ∙ ap (λ n. record { to = c.args.peer; datagram = datagram c.args.self.now Join n c.args.cursor c.push.new.self.items }) c.take_seq-seq.ensures.seq
    ∙ ap (λ (us : List Update). record { to = c.args.peer; datagram = datagram c.args.self.now Join c.args.self.now.seq c.args.cursor us }) (updates c)

pub returns-clause-answer : goal.returns-clause-answer
returns-clause-answer c =
    let said = fit-open c.self.inside.settings.me c.self.inside.number (out c) refl
    (rw c.push.ensures.items (rw c.new-updates.ensures (and-both (may_say c.self.inside.settings.me c.self.inside.number c.own.result) true (ap (λ (s : State). may_say s.settings.me s.number c.own.result) c.self.view_is ∙ c.own.ensures.said) refl))) in
    adds-as _ _ _ _ _ _ _ _ _ _ (ap (λ (o : Out). o ∷ []) (same c)) (omega arith) refl
    (adds-one c.args.self.now (record (the_view c.self.inside) { joining = Some (record { peer = c.args.peer; seq = c.take_seq-seq.result; cursor = c.args.cursor }) }) c.args.answer.now c.send.new.self (out c)
    c.send.ensures.outs c.send.ensures.notes c.send.ensures.page
    (ap (λ (s : State). s.settings) (state c)) (ap (λ (s : State). s.number) (state c)) said)
