use Rattle.std.proofs.Common.{◌≡◌, ◌+◌, ◌%◌, ◌≤◌, arith}
use Rattle.std.proofs.lemmas.List.FromFn.{fill_by_all}
use Rattle.swim_rules.specs.Deals.{deal_from}
use Rattle.swim_rules.proofs.Dealing.{cyclic-deal}
use Rattle.swim_rules.proofs.deal.Deal.from_first.Goals as goal

all-written : (c : goal.After-loop-place) → c.loop-place.numbers ≡ deal_from c.args.first
all-written c =
    let end : 256 ≤ c.loop-place.place = c.loop-place-test.false in
    fill_by_all (λ k. (c.args.first + k) % 256) c.loop-place.numbers 256 0 c.loop-place.invariant.all (λ k h. c.loop-place.invariant.cyclic k (omega arith))

pub returns : goal.returns
returns c = all-written c

pub invariant_of-result : goal.invariant_of-result
invariant_of-result c = rw (all-written c) (cyclic-deal c.args.first)
