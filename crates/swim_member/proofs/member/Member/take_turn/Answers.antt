use Rattle.std.proofs.Common.{◌∙◌, ◌+◌, ap, sym, ℕ, List}
use Rattle.swim_member.specs.contracts.member.Member.{the_view}
use Rattle.swim_member.specs.State.{State}
use Rattle.swim_member.specs.Turn.{next_listed, passed_over}
use Rattle.swim_member.proofs.Turning.{turned-next}
use Rattle.swim_member.proofs.member.Member.take_turn.Goals as goal

pub returns-in-Some-clause-state : goal.returns-in-Some-clause-state
returns-in-Some-clause-state c =
    ap (λ (l : List ℕ). record (the_view c.self.inside) { listed = l; place = c.go_on.new.self.place }) c.go_on.ensures.listed
    ∙ ap (λ (n : ℕ). record (the_view c.self.inside) { place = n }) c.in-Some.ensures.place
    ∙ ap (λ (s : State). record s { place = s.place + (passed_over s + 1) }) c.self.view_is
    ∙ turned-next c.args.self.now c.args.deal.now c.in-Some.next (ap (λ (s : State). next_listed s) (sym c.self.view_is) ∙ sym c.go_on.ensures.next ∙ c.in-Some.is)
