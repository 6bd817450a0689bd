use Rattle.std.proofs.Common.{rules, sym}
use Rattle.swim_news.proofs.Merging.{takes_last, takes_first_new, takes_gone, takes_new, takes_changed}
use Rattle.swim_news.proofs.comparing.take_first.Goals as goal

pub returns-in_default-clause-first : goal.returns-in_default-clause-first
returns-in_default-clause-first c = takes_last _ _ _ _ c.in-Some-split_first.ensures.cases.0 c.in_default.ensures.cases

pub returns-in_default-split_first-2-clause-first : goal.returns-in_default-split_first-2-clause-first
returns-in_default-split_first-2-clause-first c = takes_first_new _ _ _ _ c.in_default-split_first-2.ensures.cases c.in-Some.ensures.cases.0

pub returns-then-lt-clause-first : goal.returns-then-lt-clause-first
returns-then-lt-clause-first c = takes_gone _ _ _ _ _ _ c.in-Some-split_first-2.ensures.cases.0 c.in-Some.ensures.cases.0 (sym c.if-lt.ensures)

pub returns-then-lt-2-clause-first : goal.returns-then-lt-2-clause-first
returns-then-lt-2-clause-first c = takes_new _ _ _ _ _ _ c.in-Some-split_first-2.ensures.cases.0 c.in-Some.ensures.cases.0 (sym c.if-lt-2.ensures)

pub returns-clause-first : goal.returns-clause-first
returns-clause-first c = takes_changed _ _ _ _ _ _ c.in-Some-split_first-2.ensures.cases.0 c.in-Some.ensures.cases.0 (sym c.if-lt.ensures) (sym c.if-lt-2.ensures) (λ same. search (rules, same, c.if-eq.ensures))
