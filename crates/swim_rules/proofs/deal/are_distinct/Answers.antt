use Rattle.std.proofs.Common.{◌≡◌, ◌<◌, refl, sym, ◌∙◌, true, false, arith, get_or, length, take, ℕ}
use Rattle.std.proofs.lemmas.List.{get_or-replicate, take_more, length-set}
use Rattle.std.proofs.lemmas.Map.Keys.{IsDistinct-push}
use Rattle.std.proofs.lemmas.Cmp.{nat_eq_equiv}
use Rattle.std.proofs.lemmas.List.Elements.{All-from_get_or}
use Rattle.swim_rules.proofs.Dealing.{none-twice, met-again, seen-next}
use Rattle.swim_rules.proofs.deal.are_distinct.Goals as goal

pub loop-number-init : goal.loop-number-init
loop-number-init c = record { once = none-twice; all = refl; seen = λ n h. get_or-replicate 256 n false false h }

pub returns-then-seen-number-clause-distinct : goal.returns-then-seen-number-clause-distinct
returns-then-seen-number-clause-distinct c = (
  λ e. absurd (cc),
  λ h. absurd (met-again c.args.numbers.now c.loop-number.number-index h c.loop-number-test.true
      (sym (c.loop-number.invariant.seen (get_or c.args.numbers.now c.loop-number.number-index 0) (c.type_inv.numbers c.loop-number.number-index).fits) ∙ c.if-seen-number.true)),
)

pub loop-number-preserved : goal.loop-number-preserved
loop-number-preserved c =
    let number : ℕ = get_or c.args.numbers.now c.loop-number.number-index 0 in
    let small : number < 256 = (c.type_inv.numbers c.loop-number.number-index).fits in
    let all : length c.loop-number.seen ≡ 256 = c.loop-number.invariant.all in
    let room : number < length c.loop-number.seen = omega arith in
    record {
      once = rw (take_more c.args.numbers.now c.loop-number.number-index 0 c.loop-number-test.true) (IsDistinct-push nat_eq_equiv (take c.loop-number.number-index c.args.numbers.now) number c.loop-number.invariant.once (sym (c.loop-number.invariant.seen number small) ∙ c.if-seen-number.false));
      all = length-set c.loop-number.seen number true ∙ all;
      seen = λ n h. seen-next c.args.numbers.now c.loop-number.seen c.loop-number.number-index n c.loop-number-test.true room (c.loop-number.invariant.seen n h);
    }

pub returns-then-seen-number-clause-below : goal.returns-then-seen-number-clause-below
returns-then-seen-number-clause-below c = All-from_get_or (λ n. n < 256) c.args.numbers.now 0 (λ i h. (c.type_inv.numbers i).fits)

pub returns-clause-below : goal.returns-clause-below
returns-clause-below c = All-from_get_or (λ n. n < 256) c.args.numbers.now 0 (λ i h. (c.type_inv.numbers i).fits)
