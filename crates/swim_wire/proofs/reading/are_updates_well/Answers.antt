use Rattle.std.proofs.Common.{◌≡◌, ◌∙◌, ap, subst, arith, refl, inl, inr}
use Rattle.std.proofs.lemmas.Bool.{cases_lt}
use Rattle.swim_wire.specs.Faults.{from_update}
use Rattle.swim_wire.proofs.Updates.{BeginsWell}
use Rattle.swim_wire.proofs.reading.are_updates_well.Goals as goal

pub loop-i-preserved : goal.loop-i-preserved
loop-i-preserved c k lt =
    let here = c.if-not-is_well.ensures in
    elim (cases_lt k c.loop-i.i) [
      | inl less ↦ c.loop-i.invariant k less
      | inr le ↦
          let same : c.loop-i.i ≡ k = omega arith in
          subst BeginsWell (c.update_at.ensures.text ∙ ap (λ n. from_update n c.args.bytes.now) same) (record {
            reserved = here.reserved refl;
            member = here.member refl;
            kind = here.kind refl;
            number = here.number refl;
          })
    ]

pub returns-clause-kind : goal.returns-clause-kind
returns-clause-kind c _ (i, (within, h)) = (c.loop-i.invariant i (omega arith)).kind h
