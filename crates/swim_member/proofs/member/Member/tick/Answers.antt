use Rattle.std.proofs.Common.{◌≡◌, [], None, false, refl, ap, sym, append-nil, ◌∙◌, arith}
use Rattle.std.proofs.lemmas.Bool.{eq-eqb, ne_eqb}
use Rattle.swim_member.specs.declared.answer.Answer.{Answer}
use Rattle.swim_member.specs.State.{State}
use Rattle.swim_member.specs.Probe.{is_at, blame}
use Rattle.swim_member.specs.Events.{notes}
use Rattle.swim_member.specs.Machinery.Adding.{Adds}
use Rattle.swim_member.proofs.Asking.{asked_probe, asks-none-state, asks-none-outs}
use Rattle.swim_member.proofs.Adding.{adds-then, adds-as, adds-start}
use Rattle.swim_member.proofs.Ticking.{TickedAtEnd, end-ticked, end-outs, end-notes, TickedWithin, within-ticked, within-outs, within-notes, ticked-state, ticked-settings}
use Rattle.swim_member.proofs.member.Member.tick.Goals as goal

-- at the end of a period

ended : (c : goal.After-probe_next) → TickedAtEnd c.args.self.now c.advance.new.self c.expire_all.new.self c.forget_all.new.self c.blame.new.self c.probe_next.new.self c.args.deal.now
ended c = record {
  begun = record { advanced = c.advance.ensures; expired = c.expire_all.ensures; forgotten = c.forget_all.ensures };
  now = ap (λ (s : State). is_at s 0) (sym c.self.view_is) ∙ eq-eqb _ 0 (sym c.self.invariant.1 ∙ c.if-self-eq0.true);
  later = let same : c.self.inside.settings.direct ≡ c.forget_all.new.self.settings.direct = ap (λ (s : State). s.settings.direct) c.self.view_is in omega (arith, c.self.invariant.0.sound.direct_low);
  blames = c.blame.ensures.state;
  looks = c.probe_next.ensures.state;
}

pub returns-then-self-eq0-clause-state : goal.returns-then-self-eq0-clause-state
returns-then-self-eq0-clause-state c = ticked-state _ _ _ _ _ _ _ c.args.deal.now (end-ticked _ _ _ _ _ _ c.args.deal.now (ended c))

pub returns-then-self-eq0-clause-answer : goal.returns-then-self-eq0-clause-answer
returns-then-self-eq0-clause-answer c =
    adds-as _ _ _ _ _ _ _ _ _ _
    (end-outs _ _ _ _ _ _ c.args.deal.now (ended c))
    (omega arith)
    (append-nil (notes (blame c.forget_all.new.self c.forget_all.new.self.probe)) ∙ end-notes _ _ _ _ _ _ c.args.deal.now (ended c))
    (adds-start c.args.self.now c.forget_all.new.self _ _ _ _ _ _ (ap (λ (a : Answer). a.outs.items) c.requires.nothing)
    (adds-then _ _ _ _ _ _ _ _ _ _ _ _ c.blame.ensures.answer c.probe_next.ensures.answer))

-- at the moment at which others are asked

pub ask_all-requires-clause-moment : goal.ask_all-requires-clause-moment
ask_all-requires-clause-moment c = ap (λ (s : State). is_at s s.settings.direct) (sym c.self.view_is) ∙ eq-eqb _ _ (sym c.self.invariant.1 ∙ c.if-self.true)

asked : (c : goal.After-ask_all) → TickedWithin c.args.self.now c.advance.new.self c.expire_all.new.self c.forget_all.new.self c.ask_all.new.self
asked c = record {
  begun = record { advanced = c.advance.ensures; expired = c.expire_all.ensures; forgotten = c.forget_all.ensures };
  within = ap (λ (s : State). is_at s 0) (sym c.self.view_is) ∙ ne_eqb _ 0 (λ e. c.if-self-eq0.false (c.self.invariant.1 ∙ e));
  asked = c.ask_all.ensures.state;
}

pub returns-then-self-clause-state : goal.returns-then-self-clause-state
returns-then-self-clause-state c = ticked-state _ _ _ _ _ _ _ c.args.deal.now (within-ticked _ _ _ _ _ c.args.deal.now (asked c))

pub returns-then-self-clause-answer : goal.returns-then-self-clause-answer
returns-then-self-clause-answer c =
    let same = ticked-settings _ _ _ _ _ _ _ c.args.deal.now (within-ticked _ _ _ _ _ c.args.deal.now (asked c)) in
    adds-as _ _ _ _ _ _ _ _ _ _
    (within-outs _ _ _ _ _ c.args.deal.now (asked c))
    (rw (← same) (omega arith))
    (within-notes _ _ _ _ _ c.args.deal.now (asked c))
    (adds-start c.args.self.now c.forget_all.new.self _ _ _ _ _ _ (ap (λ (a : Answer). a.outs.items) c.requires.nothing) c.ask_all.ensures.answer)

-- at any other moment nothing is said

rests : (c : goal.Else-self) → (asked_probe c.forget_all.new.self ≡ None) × TickedWithin c.args.self.now c.advance.new.self c.expire_all.new.self c.forget_all.new.self c.forget_all.new.self
rests c =
    let within : is_at c.forget_all.new.self 0 ≡ false = ap (λ (s : State). is_at s 0) (sym c.self.view_is) ∙ ne_eqb _ 0 (λ e. c.if-self-eq0.false (c.self.invariant.1 ∙ e)) in
    let later : is_at c.forget_all.new.self c.forget_all.new.self.settings.direct ≡ false = ap (λ (s : State). is_at s s.settings.direct) (sym c.self.view_is) ∙ ne_eqb _ _ (λ e. c.if-self.false (c.self.invariant.1 ∙ e)) in
    let none : asked_probe c.forget_all.new.self ≡ None = rw later refl in (
      none,
      record {
        begun = record { advanced = c.advance.ensures; expired = c.expire_all.ensures; forgotten = c.forget_all.ensures };
        within = within;
        asked = sym (asks-none-state 8 0 c.forget_all.new.self none);
      },
    )

nothing_said : (s0 s : State) (a : Answer) → a.outs.items ≡ [] → Adds s0 s a a [] 0 []
nothing_said s0 s a h =
    record {
      outs = sym (append-nil a.outs.items);
      notes = sym (append-nil a.notes.items);
      page = refl;
      few = omega arith;
      fit = λ k. rw h refl;
    }

pub returns-else-self-clause-state : goal.returns-else-self-clause-state
returns-else-self-clause-state c = ticked-state _ _ _ _ _ _ _ c.args.deal.now (within-ticked _ _ _ _ _ c.args.deal.now (rests c).1)

pub returns-else-self-clause-answer : goal.returns-else-self-clause-answer
returns-else-self-clause-answer c =
    adds-as _ _ _ _ _ _ _ _ _ _
    (sym (asks-none-outs 8 0 c.forget_all.new.self (rests c).0) ∙ within-outs _ _ _ _ _ c.args.deal.now (rests c).1)
    (omega arith)
    (within-notes _ _ _ _ _ c.args.deal.now (rests c).1)
    (nothing_said c.args.self.now c.forget_all.new.self c.args.answer.now (ap (λ (a : Answer). a.outs.items) c.requires.nothing))
