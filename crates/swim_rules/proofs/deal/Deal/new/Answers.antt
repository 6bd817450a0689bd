use Rattle.std.proofs.Common.{rules, refl}
use Rattle.swim_rules.specs.Deals.{IsDeal}
use Rattle.swim_rules.proofs.deal.Deal.new.Goals as goal

is-deal : (c : goal.Else-not-are_distinct) → IsDeal c.args.numbers
is-deal c = record { all = search rules; below = c.are_distinct.ensures.below; once = c.if-not-are_distinct.ensures.distinct.0 refl }

pub invariant_of-result : goal.invariant_of-result
invariant_of-result c = is-deal c

pub returns : goal.returns
returns c = (is-deal c, refl)
