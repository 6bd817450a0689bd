use Rattle.std.proofs.Common.{sym, ap, ◌∙◌, [], subst}
use Rattle.swim_member.specs.contracts.member.Member.{the_view}
use Rattle.swim_member.specs.Judged.{Judged}
use Rattle.swim_member.specs.State.{State}
use Rattle.swim_member.specs.Judge.{judge, MayAct}
use Rattle.swim_member.specs.Events.{actions, state_of}
use Rattle.swim_member.proofs.Logs.{state_of-snoc, answer-step}
use Rattle.swim_member.proofs.Actions.{after-news, settings-after}
use Rattle.swim_member.proofs.Showing.{answer-news, number-judged, number-grown, phase-stays}
use Rattle.swim_member.proofs.Lows.{fit-texts, fit-own}
use Rattle.swim_member.proofs.Bases.{base-itself}
use Rattle.swim_member.proofs.member.Member.act.Goals as goal

pub returns-clause-state : goal.returns-clause-state
returns-clause-state c base steps h =
    state_of-snoc base steps (record { event = c.args.event.now; granted = c.args.granted }) c.args.self.now h
    ∙ after-news c.args.self.now (actions c.args.self.now c.args.event.now c.args.granted)
    ∙ sym c.obey.ensures.state

pub returns-clause-answer : goal.returns-clause-answer
returns-clause-answer c base steps h =
    answer-step base steps c.args.event.now c.args.granted c.args.self.now h
    ∙ answer-news c.args.self.now (actions c.args.self.now c.args.event.now c.args.granted)
    ∙ sym c.obey.ensures.answer

pub returns-clause-fit : goal.returns-clause-fit
returns-clause-fit c = fit-texts c.obey.new.self.settings.me c.obey.new.self.number c.obey.new.answer.outs.items c.obey.ensures.fit

pub returns-clause-own : goal.returns-clause-own
returns-clause-own c = fit-own c.obey.new.self.settings.me c.obey.new.self.number c.obey.new.answer.outs.items c.obey.ensures.fit

pub returns-clause-number : goal.returns-clause-number
returns-clause-number c =
    ap (λ (s : State). s.number) c.obey.ensures.state
    ∙ number-judged c.args.self.now (judge c.args.self.now c.args.event.now) c.args.granted

pub returns-clause-grows : goal.returns-clause-grows
returns-clause-grows c =
    rw c.obey.ensures.state (rw (number-judged c.args.self.now (judge c.args.self.now c.args.event.now) c.args.granted) (number-grown c.args.self.now (judge c.args.self.now c.args.event.now) c.args.granted (subst (λ (j : Judged). MayAct c.args.self.now j) c.requires.judged c.requires.sound)))

pub returns-clause-settings : goal.returns-clause-settings
returns-clause-settings c =
    ap (λ (s : State). s.settings) c.obey.ensures.state ∙ settings-after c.args.self.now (actions c.args.self.now c.args.event.now c.args.granted)

pub returns-clause-stays : goal.returns-clause-stays
returns-clause-stays c two h = rw c.obey.ensures.state (phase-stays c.args.self.now c.args.event.now c.args.granted two h)

pub returns-clause-base : goal.returns-clause-base
returns-clause-base c =
    ap (λ (s : State). state_of s []) (sym c.self.view_is)
    ∙ base-itself (the_view c.self.inside) c.self.invariant.0.table.order c.self.invariant.0.wait.apart c.self.invariant.0.live
    ∙ c.self.view_is
