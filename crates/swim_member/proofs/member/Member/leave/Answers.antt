use Rattle.std.proofs.Common.{◌≡◌, ap, sym, ◌∙◌, arith}
use Rattle.swim_member.specs.declared.answer.Answer.{Answer}
use Rattle.swim_member.specs.State.{State}
use Rattle.swim_member.specs.Events.{Bye, each_from}
use Rattle.swim_member.specs.Machinery.Steps.{after, outs_by, notes_by}
use Rattle.swim_member.proofs.Adding.{adds-as, adds-start}
use Rattle.swim_member.proofs.Ticking.{notes-each, notes-bye}
use Rattle.swim_member.proofs.member.Member.leave.Goals as goal

pub returns-clause-state : goal.returns-clause-state
returns-clause-state c = c.say_bye.ensures.state ∙ ap (λ (s : State). after s (each_from 0 9 (λ k. Bye k))) c.depart.ensures

pub returns-clause-answer : goal.returns-clause-answer
returns-clause-answer c =
    let same : c.depart.new.self.settings.helpers ≡ c.args.self.now.settings.helpers = ap (λ (s : State). s.settings.helpers) c.depart.ensures in
    adds-as _ _ _ _ _ _ _ _ _ _
    (ap (λ (s : State). outs_by s (each_from 0 9 (λ k. Bye k))) c.depart.ensures)
    (omega arith)
    (sym (notes-each (λ k. Bye k) notes-bye 9 0 c.depart.new.self) ∙ ap (λ (s : State). notes_by s (each_from 0 9 (λ k. Bye k))) c.depart.ensures)
    (adds-start c.args.self.now c.depart.new.self _ _ _ _ _ _ (ap (λ (a : Answer). a.outs.items) c.requires) c.say_bye.ensures.answer)
