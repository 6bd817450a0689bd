use Rattle.std.proofs.Common.{true, refl, sym, ◌∙◌, arith}
use Rattle.swim_explain.proofs.Lasting.{next_case, same_case, not-and, or-true, or-false}
use Rattle.swim_explain.proofs.last.start_of.Goals.{then-is_over+then-is_blame, else-is_over+then-lets_go, else-is_over-via-then-is_over+else-is_blame, else-is_over-via-else-is_over, else-is_over+else-lets_go}
use Rattle.swim_explain.proofs.last.start_of.Goals as goal

pub loop-place-preserved : goal.loop-place-preserved
loop-place-preserved c =
    let n = c.args.number in
    let xs = c.args.accounts.now in
    let a = c.loop-place.start in
    let i = c.loop-place.place in
    let x = c.index-accounts-place.result in
    let is = c.index-accounts-place.is in
    let le = c.loop-place.invariant.within in
    let less = c.loop-place-test.true in
    elim c.if-is_over.branch [
      | then-is_over+then-is_blame w ↦ (
          let same = next_case n xs a i x less is (sym w.is_blame.ensures ∙ w.if-is_blame.true) in
          rw (w.start-is, w.is_over-is) record { within = omega arith; last = sym same ∙ (rw w.if-is_over.true at c.loop-place.invariant.last) }
          )
      | else-is_over+then-lets_go w ↦ (
          let ends = or-true c.loop-place.is_over _ (sym w.lets_go.ensures ∙ w.if-lets_go.true) in
          rw (w.start-is, w.is_over-is) record {
            within = omega (arith, le);
            last = sym (same_case n xs a i x c.loop-place.is_over true le less is ends (elim w.else-is_over.branch [
              | else-is_over-via-then-is_over+else-is_blame v ↦ not-and c.loop-place.is_over _ (sym v.is_blame.ensures ∙ v.if-is_blame.false)
              | else-is_over-via-else-is_over v ↦ rw v.if-is_over.false refl
            ])) ∙ c.loop-place.invariant.last;
          }
          )
      | else-is_over+else-lets_go w ↦ (
          let ends = or-false c.loop-place.is_over _ (sym w.lets_go.ensures ∙ w.if-lets_go.false) in
          rw (w.start-is, w.is_over-is) record {
            within = omega (arith, le);
            last = sym (same_case n xs a i x c.loop-place.is_over c.loop-place.is_over le less is ends (elim w.else-is_over.branch [
              | else-is_over-via-then-is_over+else-is_blame v ↦ not-and c.loop-place.is_over _ (sym v.is_blame.ensures ∙ v.if-is_blame.false)
              | else-is_over-via-else-is_over v ↦ rw v.if-is_over.false refl
            ])) ∙ c.loop-place.invariant.last;
          }
          )
    ]
