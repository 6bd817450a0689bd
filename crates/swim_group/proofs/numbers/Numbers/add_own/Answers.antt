use Rattle.std.proofs.Common.{◌∙◌, List, ℕ, subst}
use Rattle.swim_group.specs.Checking.{IsAdded}
use Rattle.swim_group.proofs.numbers.Numbers.add_own.Goals as goal

pub returns-clause-ok : goal.returns-clause-ok
returns-clause-ok c =
    subst (λ (old : List ℕ). IsAdded old c.args.who c.args.updates.now c.add_own.new.rising.items) (c.reserve.ensures.items ∙ c.self.view_is) c.add_own.ensures.added
