use Rattle.std.proofs.Common.{◌∙◌, sym, ap, ℕ, false, Some, None, [], ◌∷◌}
use Rattle.swim_wire.specs.declared.datagram.Kind.TheVariants.{Ping}
use Rattle.swim_member.specs.State.{State, SequenceTaken}
use Rattle.swim_member.specs.Events.{outs}
use Rattle.swim_member.specs.Probe.{probe_of}
use Rattle.swim_member.specs.Send.{send}
use Rattle.swim_member.specs.Machinery.Steps.{apply, apply_all}
use Rattle.swim_member.proofs.Adding.{adds-from}
use Rattle.swim_member.proofs.Turning.{state-look, outs-look, state-nobody, turned-settings, turned-number}
use Rattle.swim_member.proofs.member.Member.probe_next.Goals as goal

-- the member as it pings the target by this sequence
abbrev probing : State → ℕ → ℕ → State
probing s x seq = record s { probe = Some (record { target = x; seq = seq; answered = false }) }

pub returns-in_default-clause-state : goal.returns-in_default-clause-state
returns-in_default-clause-state c =
    ap (λ (s : State). record s { probe = None }) (c.self.view_is ∙ c.take_turn.ensures.state)
    ∙ sym (state-nobody c.args.self.now c.args.deal.now (sym c.take_turn.ensures.target ∙ c.in_default.is))

pub returns-clause-state : goal.returns-clause-state
returns-clause-state c =
    let x = c.in-Some.target in
    c.send.ensures.state
    ∙ ap (λ (s : State). let t = probing s x c.take_seq-seq.result in apply (send t x Ping c.take_seq-seq.result x) t) (c.self-2.view_is ∙ c.take_seq-seq.ensures.state)
    ∙ ap (λ n. let t = probing (apply SequenceTaken c.take_turn.new.self) x n in apply (send t x Ping n x) t) c.take_seq-seq.ensures.seq
    ∙ ap (λ (s : State). apply_all (probe_of s x) s) c.take_turn.ensures.state
    ∙ sym (state-look c.args.self.now c.args.deal.now x (sym c.take_turn.ensures.target ∙ c.in-Some.is))

pub returns-clause-answer : goal.returns-clause-answer
returns-clause-answer c =
    let x = c.in-Some.target in
    let view = c.self-2.view_is ∙ c.take_seq-seq.ensures.state in
    adds-from c.args.self.now _ c.send.new.self _ _ _ _ _ _
    (ap (λ (s : State). s.settings) view ∙ ap (λ (s : State). s.settings) c.take_turn.ensures.state ∙ turned-settings c.args.self.now c.args.deal.now)
    (ap (λ (s : State). s.number) view ∙ ap (λ (s : State). s.number) c.take_turn.ensures.state ∙ turned-number c.args.self.now c.args.deal.now)
    (ap (λ (s : State). outs (send s x Ping c.take_seq-seq.result x ∷ [])) view
    ∙ ap (λ n. outs (send c.take_turn.new.self x Ping n x ∷ [])) c.take_seq-seq.ensures.seq
    ∙ ap (λ (s : State). outs (probe_of s x)) c.take_turn.ensures.state
    ∙ sym (outs-look c.args.self.now c.args.deal.now x (sym c.take_turn.ensures.target ∙ c.in-Some.is)))
    c.send.ensures.answer
