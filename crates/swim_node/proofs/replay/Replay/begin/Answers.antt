use Rattle.std.proofs.Common.{◌≡◌, ℕ, ◌≤◌, ap, sym, ◌∙◌, arith}
use Rattle.swim_member.specs.State.{State}
use Rattle.swim_member.specs.Resuming.{resume_fault}
use Rattle.swim_node.specs.Replaying.{bounds_fault}
use Rattle.swim_node.proofs.Begins.{begins-both}
use Rattle.swim_node.proofs.Replaying.{node-begun}
use Rattle.swim_node.proofs.replay.Replay.begin.Goals as goal

pub invariant_of-result : goal.invariant_of-result
invariant_of-result c =
    let same : c.in_ok-member.member.number ≡ c.state.inside.number = ap (λ (s : State). s.number) (c.in_ok-member.ensures.state ∙ sym c.state.view_is) in
    let covered : c.in_ok-member.member.number ≤ c.beginning.inside.granted = omega (arith, same, c.in_ok-check_bounds.ensures.ceiling) in
    let begins = begins-both (record { state = c.in_ok-member.member; granted = c.beginning.inside.granted; past = c.beginning.inside.past; limit = c.beginning.inside.limit })
    (ap (λ (n : ℕ). bounds_fault c.beginning.inside.limit n c.beginning.inside.granted c.beginning.inside.past) same ∙ c.in_ok-check_bounds.ensures.ok)
    (ap resume_fault c.in_ok-member.ensures.state ∙ c.in_ok-member.ensures.none) in
    rw (c.reserve.ensures.entries, c.new-journal.ensures, c.base.ensures.value)
    (node-begun c.in_ok-member.member c.beginning.inside.granted c.beginning.inside.past c.beginning.inside.limit c.base.ensures.reads begins c.base.ensures.listed c.in_ok-member.ensures.few covered c.in_ok-check_bounds.ensures.past c.in_ok-check_bounds.ensures.limit)
