use Rattle.std.proofs.Common.{◌≡◌, ◌+◌, ◌==◌, ap, sym, ◌∙◌, arith}
use Rattle.swim_member.specs.Probe.{ends_period}
use Rattle.swim_member.specs.State.{State}
use Rattle.swim_member.proofs.Moments.{next-ends}
use Rattle.swim_member.proofs.Undealt.{of_no_matter}
use Rattle.swim_member.proofs.member.Member.ends_period.Goals as goal

ends : (c : goal.After-self) → (c.self.inside.moment + 1 == c.self.inside.settings.period) ≡ ends_period c.args.self.now
ends c =
    next-ends c.self.inside.time c.self.inside.settings.period c.self.inside.moment (omega (arith, c.self.invariant.0.sound.period_low)) c.self.invariant.1
    ∙ ap (λ (s : State). ends_period s) c.self.view_is

pub returns-clause-ends : goal.returns-clause-ends
returns-clause-ends c = ends c

pub returns-clause-otherwise : goal.returns-clause-otherwise
returns-clause-otherwise c within base steps is = of_no_matter c.args.self.now (sym (ends c) ∙ within) base steps is
