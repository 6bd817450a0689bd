use Rattle.std.proofs.Common.{◌≡◌, ℕ, ap, sym, ◌∙◌, ◌∷◌, [], ◌++◌}
use Rattle.swim_wire.specs.declared.datagram.Datagram.{Datagram}
use Rattle.swim_member.specs.declared.answer.Answer.{Answer}
use Rattle.swim_member.specs.declared.event.Event.{Event}
use Rattle.swim_member.specs.declared.judge.Judgement.{Judgement}
use Rattle.swim_member.specs.declared.judge.Judgement.TheVariants as judgement
use Rattle.swim_member.specs.Judge.{judge}
use Rattle.swim_member.specs.Judged.{Judged, judged_as, deal_of}
use Rattle.swim_member.specs.State.{State}
use Rattle.swim_member.specs.Events.{Take, Join_peer, actions, actions_of, tick_actions, datagram_actions, leave_actions}
use Rattle.swim_member.specs.Machinery.Steps.{after, answer_by}
use Rattle.swim_member.proofs.Adding.{adds-all}
use Rattle.swim_member.proofs.Showing.{answer-parts, page-ticked, page-received, page-left, page-joined}
use Rattle.swim_member.proofs.member.Member.obey.Goals as goal

-- what is done as it was judged is what is done at the event
obeyed : (s : State) (e : Event) (read : Datagram) (granted : ℕ) (j k : Judgement) → j ≡ k → judged_as e read j ≡ judge s e → actions_of (judged_as e read k) granted ≡ actions s e granted
obeyed s e read granted j k is same =
    ap (λ (i : Judgement). actions_of (judged_as e read i) granted) (sym is) ∙ ap (λ (i : Judged). actions_of i granted) same

pub returns-in-Note-clause-answer : goal.returns-in-Note-clause-answer
returns-in-Note-clause-answer c =
    answer-parts c.note.new.self c.args.self.now (Take c.in-Note.note ∷ [])
    (ap (λ o. o.items) c.note.ensures.outs ∙ ap (λ (a : Answer). a.outs.items) c.requires.nothing)
    (c.note.ensures.notes ∙ ap (λ (a : Answer). a.notes.items ++ c.in-Note.note ∷ []) c.requires.nothing)
    (ap (λ p. p.items) c.note.ensures.page ∙ ap (λ (a : Answer). a.page.items) c.requires.nothing)
    ∙ ap (answer_by c.args.self.now) (obeyed c.args.self.now c.args.event.now c.args.read.now c.args.granted c.args.judged (judgement.Note c.in-Note.note) c.in-Note.is c.requires.judged)

pub returns-in-Tick-event-clause-state : goal.returns-in-Tick-event-clause-state
returns-in-Tick-event-clause-state c =
    c.tick.ensures.state
    ∙ ap (λ deal. after c.args.self.now (tick_actions deal)) (sym (ap deal_of c.in-Tick-event.is))
    ∙ ap (after c.args.self.now) (obeyed c.args.self.now c.args.event.now c.args.read.now c.args.granted c.args.judged judgement.Tick c.in-Tick.is c.requires.judged)

pub returns-in-Tick-event-clause-answer : goal.returns-in-Tick-event-clause-answer
returns-in-Tick-event-clause-answer c =
    adds-all c.args.self.now c.tick.new.self c.args.answer.now c.tick.new.answer (tick_actions c.in-Tick-event.deal) _ c.requires.nothing (page-ticked c.args.self.now 256 256 c.in-Tick-event.deal) c.tick.ensures.answer
    ∙ ap (λ deal. answer_by c.args.self.now (tick_actions deal)) (sym (ap deal_of c.in-Tick-event.is))
    ∙ ap (answer_by c.args.self.now) (obeyed c.args.self.now c.args.event.now c.args.read.now c.args.granted c.args.judged judgement.Tick c.in-Tick.is c.requires.judged)

pub returns-in-Datagram-clause-answer : goal.returns-in-Datagram-clause-answer
returns-in-Datagram-clause-answer c =
    adds-all c.args.self.now c.receive.new.self c.args.answer.now c.receive.new.answer (datagram_actions c.args.read.now c.in-Datagram.own c.args.granted) _ c.requires.nothing (page-received c.args.self.now c.args.read.now c.in-Datagram.own c.args.granted) c.receive.ensures.answer
    ∙ ap (answer_by c.args.self.now) (obeyed c.args.self.now c.args.event.now c.args.read.now c.args.granted c.args.judged (judgement.Datagram c.in-Datagram.own) c.in-Datagram.is c.requires.judged)

pub returns-in-Join-clause-answer : goal.returns-in-Join-clause-answer
returns-in-Join-clause-answer c =
    adds-all c.args.self.now c.start_join.new.self c.args.answer.now c.start_join.new.answer (Join_peer c.in-Join.peer ∷ []) _ c.requires.nothing (page-joined c.args.self.now c.in-Join.peer) c.start_join.ensures.answer
    ∙ ap (answer_by c.args.self.now) (obeyed c.args.self.now c.args.event.now c.args.read.now c.args.granted c.args.judged (judgement.Join c.in-Join.peer) c.in-Join.is c.requires.judged)

pub returns-in-Leave-clause-answer : goal.returns-in-Leave-clause-answer
returns-in-Leave-clause-answer c =
    adds-all c.args.self.now c.leave.new.self c.args.answer.now c.leave.new.answer leave_actions _ c.requires.nothing (page-left c.args.self.now 9) c.leave.ensures.answer
    ∙ ap (answer_by c.args.self.now) (obeyed c.args.self.now c.args.event.now c.args.read.now c.args.granted c.args.judged judgement.Leave c.in-Leave.is c.requires.judged)
