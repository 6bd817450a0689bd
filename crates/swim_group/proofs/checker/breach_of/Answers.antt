use Rattle.std.proofs.Common.{rules, ◌≡◌, ◌∙◌, ◌≤◌, ◌<◌, ℕ, arith, sym, subst}
use Rattle.std.proofs.lemmas.Bool.{eqb-true, eqb-false, false≢true}
use Rattle.swim_group.specs.Checking.{IsRemembered}
use Rattle.swim_group.proofs.checker.breach_of.Goals as goal

pub returns-in_default-clause-none : goal.returns-in_default-clause-none
returns-in_default-clause-none c =
    let own = eqb-true c.args.update.now.who c.args.sender (sym c.eq.ensures ∙ c.if-eq.true) in
    record {
      other = λ ne. absurd (ne own);
      own = λ e n k.
          let most : n ≤ c.in-Some.number = c.in-Some.ensures.some.1 n (subst (λ x. IsRemembered c.args.told.now.entries x n) (sym own) k) in
          let below : c.in-Some.number ≤ c.args.update.now.number = search rules in
          omega arith;
    }

pub returns-in_default-2-clause-none : goal.returns-in_default-2-clause-none
returns-in_default-2-clause-none c =
    let own = eqb-true c.args.update.now.who c.args.sender (sym c.eq.ensures ∙ c.if-eq.true) in
    record {
      other = λ ne. absurd (ne own);
      own = λ e n k. absurd (c.in_default.ensures.none n (subst (λ x. IsRemembered c.args.told.now.entries x n) (sym own) k));
    }

pub returns-in-Some-greatest-clause-some : goal.returns-in-Some-greatest-clause-some
returns-in-Some-greatest-clause-some c = (
  eqb-false c.args.update.now.who c.args.sender (sym c.eq.ensures ∙ c.if-eq.false),
  λ k. false≢true (sym c.if-has_told.false ∙ c.has_told.ensures.1 k),
  λ above.
      let less : c.in-Some-greatest.number < c.args.update.now.number = above c.in-Some-greatest.number c.in-Some-greatest.ensures.some.0 in
      let more : c.args.update.now.number < c.in-Some-greatest.number = search rules in
      omega arith,
)

pub returns-in_default-greatest-clause-some : goal.returns-in_default-greatest-clause-some
returns-in_default-greatest-clause-some c = (
  eqb-false c.args.update.now.who c.args.sender (sym c.eq.ensures ∙ c.if-eq.false),
  λ n k.
      let most : n ≤ c.in-Some-greatest.number = c.in-Some-greatest.ensures.some.1 n k in
      let below : c.in-Some-greatest.number ≤ c.args.update.now.number = search rules in
      let other : n ≡ c.args.update.now.number → ⊥ = λ e. false≢true (sym c.if-has_told.false ∙ c.has_told.ensures.1 (subst (IsRemembered c.args.told.now.entries c.args.update.now.who) e k)) in
      below-other n c.args.update.now.number (omega arith) other,
)
  where
    below-other : (n m : ℕ) → n ≤ m → (n ≡ m → ⊥) → n < m
    below-other n m le ne = omega arith

pub returns-in_default-greatest-2-clause-some : goal.returns-in_default-greatest-2-clause-some
returns-in_default-greatest-2-clause-some c = (
  eqb-false c.args.update.now.who c.args.sender (sym c.eq.ensures ∙ c.if-eq.false),
  λ n k. absurd (c.in_default-greatest.ensures.none n k),
)
