use Rattle.std.proofs.Common.{◌≡◌, ◌∙◌, ap, sym, true, false, rules, Some, arith, length, List, ℕ}
use Rattle.swim_state.specs.First.{ceiling_in}
use Rattle.swim_state.specs.Second.{ascend}
use Rattle.swim_state.proofs.Firsts.{said_good, said_bad, good_bounded}
use Rattle.swim_state.proofs.first.decode.Goals as goal

pub returns-then-not-is_good-clause-said : goal.returns-then-not-is_good-clause-said
returns-then-not-is_good-clause-said c =
    let bad : c.is_good.result ≡ false = search (rules, c.if-not-is_good) in
    sym (said_bad c.args.body.now (sym c.is_good.ensures ∙ bad))

pub returns-clause-said : goal.returns-clause-said
unfolding ceiling_in
returns-clause-said c =
    let good : c.is_good.result ≡ true = search (rules, c.if-not-is_good) in
    (λ i. Some (record { ceiling = c.read_u64.ensures i; peers = c.none.ensures i })) ∙ sym (said_good c.args.body.now (sym c.is_good.ensures ∙ good))

pub returns-clause-stands : goal.returns-clause-stands
unfolding ceiling_in
returns-clause-stands c =
    let good : c.is_good.result ≡ true = search (rules, c.if-not-is_good) in
    (omega (arith, c.read_u64.ensures, good_bounded c.args.body.now (sym c.is_good.ensures ∙ good)), (omega (arith, ap (λ (l : List ℕ). length l) c.none.ensures), ap (ascend 0) c.none.ensures))
