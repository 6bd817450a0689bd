use Rattle.std.proofs.Common.{ap, sym, subst, ◌∙◌}
use Rattle.rand.specs.Shuffle.{shuffled}
use Rattle.swim_rules.specs.Deals.{IsDeal}
use Rattle.swim_shell.specs.Ticks.{answers}
use Rattle.swim_shell.proofs.Dealing.{shuffled-deal}
use Rattle.swim_shell.proofs.ticker.draw_deal.Goals as goal

pub unreachable-requires : goal.unreachable-requires
unreachable-requires c =
    let were = c.as_mut_slice.ensures.value ∙ (c.copy_from_slice.ensures.after ∙ c.numbers.ensures.numbers) in
    c.in-None.ensures (shuffled-deal c.as_mut_slice.result.now c.shuffle.new.self (subst IsDeal (sym were) c.numbers.ensures.kept) c.shuffle.ensures.permutation)

pub returns : goal.returns
returns c =
    let were = c.as_mut_slice.ensures.value ∙ (c.copy_from_slice.ensures.after ∙ (c.numbers.ensures.numbers ∙ c.from_first.ensures)) in
    let drawn = c.shuffle.ensures.drawn ∙ ap (λ xs. shuffled xs 0 (answers c.args.rng.now)) were in
    ap (λ d. (d, answers c.shuffle.new.rng)) c.in-Some.ensures.1 ∙ drawn
