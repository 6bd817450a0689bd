use Rattle.std.proofs.Common.{rules, subst}
use Rattle.std.specs.Prelude.{IfSome}
use Rattle.swim_join.specs.Joins.{IsFindable}
use Rattle.swim_join.proofs.Searching.{back_found, drawn_found, wanted_found}
use Rattle.swim_join.proofs.joiner.Joiner.search.Goals as goal

pub returns-then-is_some-clause-known : goal.returns-then-is_some-clause-known
returns-then-is_some-clause-known g c =
    subst (λ w. IfSome c.take_back-back.result (IsFindable c.args.self.now w)) c.as_slice.ensures.rows (back_found _ c.args.self.now c.self.inside.me _ _ _ c.take_back-back.ensures.value (search rules))

pub returns-then-word-eq0-clause-known : goal.returns-then-word-eq0-clause-known
returns-then-word-eq0-clause-known g c = drawn_found _ c.args.self.now c.self.inside.me c.self.inside.peers _ c.draw.ensures.known (search rules) (search rules)

pub returns-clause-known : goal.returns-clause-known
returns-clause-known g c =
    subst (λ w. IfSome c.wanted.result (IsFindable c.args.self.now w)) c.as_slice-2.ensures.rows (wanted_found _ c.args.self.now c.self.inside.me _ c.list.result.now _ c.wanted.ensures.value (search rules) (search rules))
